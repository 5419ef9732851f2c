-- What a connection stands for, and what a piece of octets gives.
use Rattle.std.specs.Prelude.{◌≡◌, ℕ, ◌<◌, ◌≤◌, List, ◌++◌, length, take, None, Some, Result, Ok, Err, Bool, true, false, ◌⊎◌}
use Rattle.octet_reading.specs.declared.memory.NoMemory.{NoMemory}
use Rattle.amqp_frames.specs.Cut.{cut}
use Rattle.amqp_frames.specs.Stands.{Stands}
use Rattle.broker_engine.specs.declared.conn.Conn.{Conn}
use Rattle.broker_engine.specs.declared.intake.Fed.{Fed}
use Rattle.broker_engine.specs.declared.intake.State.{State}
use Rattle.broker_engine.specs.declared.intake.State.TheVariants as state
use Rattle.broker_engine.specs.declared.intake.Intake.{Intake}
use Rattle.conn_core.specs.declared.turn.State.TheVariants as end
use Rattle.conn_core.specs.Server.{is_of_connection}
use Rattle.amqp_terms.specs.declared.unit.Unit.{Unit as AnyUnit}
use Rattle.amqp_terms.specs.declared.unit.Unit.TheVariants as unit
use Rattle.broker_engine.specs.Talk.{Open, Shut, Says, Waits, Tells, Ends, Brings, Nothing, Passes, Closes, talk, says}
use Rattle.broker_engine.specs.Wire.{closing_octets}

-- its state stands for these octets of its peer
abbrev pub TalksAs : State → List ℕ → Type 0
TalksAs (state.Open a) before = (talk before ≡ Open (cut (λ place. 65535) 0 before)) × Stands a (λ place. 65535) 0 before
TalksAs state.Closed before = talk before ≡ Shut

abbrev pub TakesIn : Intake → List ℕ → Type 0
TakesIn intake before = TalksAs intake.state before

-- its negotiation is done, and its state stands for these octets of its peer
pub record Talks (conn : Conn) (before : List ℕ) : Type 0 where
  pub begun : conn.awaits ≡ false
  pub is_open : conn.end.state ≡ end.Open
  pub wide : conn.max_frame ≡ 65535
  pub talks : TakesIn conn.intake before

-- what came is what the octets say first, and the connection's own answer is put at the octets' end
abbrev pub Fits : Says → ℕ → Fed → List ℕ → List ℕ → Type 0
Fits Waits all fed old new = (fed ≡ record { taken = all; unit = None; closed = None }) × (new ≡ old)
Fits (Tells taken channel unit) all fed old new = (fed ≡ record { taken = taken; unit = Some (channel, unit); closed = None }) × (new ≡ old)
Fits (Ends closing) all fed old new = (fed ≡ record { taken = all; unit = None; closed = Some closing }) × (new ≡ old ++ closing_octets closing.why)

abbrev pub FeedsIn : Intake → List ℕ → List ℕ → List ℕ → List ℕ → Fed → Type 0
FeedsIn intake before piece old new fed = TakesIn intake (before ++ take fed.taken piece) × Fits (says (talk before) piece) (length piece) fed old new

-- a unit is meant for the connection itself
abbrev pub is_own : AnyUnit → Bool
is_own (unit.Control control) = is_of_connection control
is_own (unit.Command sync command content) = false

abbrev pub TellsOwn : Says → Type 0
TellsOwn Waits = ⊥
TellsOwn (Tells taken channel u) = is_own u ≡ true
TellsOwn (Ends closing) = ⊥

-- the same of the connection, unless such a unit came first: of that nothing is said yet
abbrev pub Feeds : Conn → List ℕ → List ℕ → List ℕ → List ℕ → Fed → Type 0
Feeds conn before piece old new fed =
    TellsOwn (says (talk before) piece) ⊎ (Talks conn (before ++ take fed.taken piece) × Fits (says (talk before) piece) (length piece) fed old new)

-- some octets of a piece that isn't empty are taken, and no more than there are
abbrev pub TakesSome : List ℕ → Result Fed NoMemory → Type 0
TakesSome piece (Ok fed) = (fed.taken ≤ length piece) × (0 < length piece → 0 < fed.taken)
TakesSome piece (Err none) = Unit {0}

-- what the unit of an assembly brings: it is handed out, or the connection is closed
abbrev pub Read : Brings → ℕ → ℕ → State → State → Fed → List ℕ → List ℕ → Type 0
Read Nothing taken all before after fed old new = ⊥
Read (Passes channel unit) taken all before after fed old new = (fed ≡ record { taken = taken; unit = Some (channel, unit); closed = None }) × (after ≡ before) × (new ≡ old)
Read (Closes closing) taken all before after fed old new =
    (fed ≡ record { taken = all; unit = None; closed = Some closing }) × (after ≡ state.Closed) × (new ≡ old ++ closing_octets closing.why)
