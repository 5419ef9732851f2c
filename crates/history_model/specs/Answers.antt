-- What goes out at once for each arrival.
use Rattle.std.specs.Prelude.{ℕ, ◌+◌, ◌^◌, nat_lt, false, if◌then◌else◌, List, [], ◌∷◌, Option, None, Some}
use Rattle.amqp_terms.specs.declared.unit.Unit.TheVariants as unit
use Rattle.amqp_terms.specs.declared.control.Control.{Control}
use Rattle.amqp_terms.specs.declared.control.Control.TheVariants.{SessionAttach, SessionAttached, SessionCommandPoint, SessionCompleted}
use Rattle.serial_ranges.specs.Serial.{serial_of}
use Rattle.amqp_terms.specs.declared.event.HubEvent.{HubEvent}
use Rattle.amqp_terms.specs.declared.event.HubEvent.TheVariants as event
use Rattle.amqp_terms.specs.declared.event.Out.{Out}
use Rattle.amqp_terms.specs.declared.event.Outs.{Outs}
use Rattle.history_model.specs.Life.{Heard, number}
use Rattle.history_model.specs.Standing.{World, life_at, may_attach}

-- a control on a channel
abbrev pub sends : ℕ → Control → Out
sends k control = record { channel = k; unit = unit.Control control }

-- completed, with one number
abbrev pub completes : ℕ → ℕ → Out
completes k n = sends k (SessionCompleted (Some (record { lower = serial_of n; upper = serial_of n } ∷ [])) false)

-- a command is answered by completed with its number
abbrev pub command_answers : ℕ → Option (List Heard) → List Out
command_answers k None = []
command_answers k (Some life) = completes k (number life) ∷ []

-- the answers to an attach that is taken
abbrev pub attach_answers : ℕ → List ℕ → List Out
attach_answers k name = sends k (SessionAttached (Some name)) ∷ sends k (SessionCommandPoint (Some 0) (Some 0)) ∷ []

-- a new session is answered by attached, then by the broker's own command-point
abbrev pub control_answers : World → ℕ → ℕ → Control → List Out
control_answers w connection k (SessionAttach (Some name) force) =
    if may_attach w connection k name then attach_answers k name else []
control_answers w connection k control = []

-- the units that go out for an event
abbrev pub answers : World → HubEvent → List Out
answers w event.Join = []
answers w (event.Unit connection k (unit.Control control)) = control_answers w connection k control
answers w (event.Unit connection k (unit.Command sync command content)) = command_answers k (life_at w (w.holder connection k))
answers w (event.Drain connection) = []
answers w (event.Lost connection) = []
answers w (event.Tick now) = []

-- the number that a connection gets as it joins; after 2^62 of them it gets none
abbrev pub joined_as : World → HubEvent → Option ℕ
joined_as w event.Join = if nat_lt w.joined (2 ^ 62) then Some (w.joined + 1) else None
joined_as w (event.Unit connection k unit) = None
joined_as w (event.Drain connection) = None
joined_as w (event.Lost connection) = None
joined_as w (event.Tick now) = None

-- all that a step gives; the store isn't asked
abbrev pub outs : World → HubEvent → Outs
outs w event = record { joined = joined_as w event; units = answers w event; asked = None }
