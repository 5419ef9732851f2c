-- Nothing was heard, and no queue is there.
use Rattle.std.proofs.Common.{[], sym, subst, refl}
use Rattle.history_model.specs.Standing.{world}
use Rattle.history_model.proofs.States.{state_none}
use Rattle.hub_core.specs.Stands.{StandsAs}
use Rattle.hub_core.proofs.hub.Hub.open.Goals as goal

pub returns : goal.returns
returns g c = (subst (λ q. StandsAs c.new.result (world []) q) (sym state_none) c.new.ensures, refl)
