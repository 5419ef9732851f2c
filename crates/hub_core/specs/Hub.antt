-- What a hub stands for.
use Rattle.std.specs.Prelude.{◌≡◌, List, [], Result, Ok, Err}
use Rattle.history_model.specs.Arrivals.{Arrival}
use Rattle.keeper_core.specs.declared.keeper.OpenFault.{OpenFault}
use Rattle.keeper_core.specs.declared.keeper.OpenFault.TheVariants.{NoMemory}
use Rattle.hub_core.specs.declared.hub.Hub.{Hub}
use Rattle.hub_core.specs.Stands.{Stands}

-- its tables stand for these arrivals
abbrev pub Serves : {K : Type 0} → Hub K → List Arrival → Type 0
Serves hub h = Stands hub.state h

-- its keeper
abbrev pub keeper_of : {K : Type 0} → Hub K → K
keeper_of hub = hub.keeper

-- the hub heard nothing and has the keeper; or memory was wanting, and the keeper comes back
abbrev pub Opens : {K : Type 0} → K → Result (Hub K) (OpenFault × K) → Type 0
Opens keeper (Ok hub) = Serves hub [] × (keeper_of hub ≡ keeper)
Opens keeper (Err (fault, back)) = (fault ≡ NoMemory) × (back ≡ keeper)
