-- What the broker does for the sessions, and the queues that it then has.
use Rattle.std.specs.Prelude.{ℕ, zero, suc, ◌+◌, ◌^◌, ◌==◌, ◌&&◌, ◌||◌, nat_lt, nat_le, not, Bool, true, false, if◌then◌else◌, List, [], ◌∷◌, ◌++◌, length, codes, nat_eq, Option, None, Some, fold}
use Rattle.std.specs.List.{list_any, starts_with}
use Rattle.std.specs.BTreeSet.{insert_key}
use Rattle.std.specs.Ordering.{nat_cmp}
use Rattle.std.specs.Cmp.Lexicographic.{slice_cmp}
use Rattle.amqp_terms.specs.declared.unit.Unit.{Unit as AnyUnit}
use Rattle.amqp_terms.specs.declared.unit.Unit.TheVariants as unit
use Rattle.amqp_terms.specs.declared.control.Control.{Control}
use Rattle.amqp_terms.specs.declared.control.Control.TheVariants.{SessionAttach, SessionCommandPoint}
use Rattle.amqp_terms.specs.declared.command.Command.{Command}
use Rattle.amqp_terms.specs.declared.command.Command.TheVariants.{QueueDeclare}
use Rattle.amqp_terms.specs.declared.event.HubEvent.{HubEvent}
use Rattle.amqp_terms.specs.declared.event.HubEvent.TheVariants as event
use Rattle.history_model.specs.Arrivals.{Arrival, Hears, Restart}
use Rattle.history_model.specs.Life.{Heard, Does, number, is_new, next}
use Rattle.history_model.specs.Standing.{World, world, life_at, may_attach, pointed, is_name}

-- what happens in the broker, in the order of the arrivals
pub data Act : Type 0 where
  Begin : (session : List ℕ) → Act
  Do : (session : List ℕ) → (number : ℕ) → (command : Command) → Act
  End : (session : List ℕ) → Act

-- the names of the queues, in order
pub record State : Type 0 where
  pub queues : List (List ℕ)

-- a new command of a session acts
abbrev pub command_acts : Option (List ℕ) → Option (List Heard) → Command → List Act
command_acts None life command = []
command_acts (Some name) None command = []
command_acts (Some name) (Some life) command = if is_new life then Do name (number life) command ∷ [] else []

-- an attach that is taken begins a session
abbrev pub control_acts : World → ℕ → ℕ → Control → List Act
control_acts w connection channel (SessionAttach (Some name) force) = if may_attach w connection channel name then Begin name ∷ [] else []
control_acts w connection channel control = []

-- a session on a channel ends
abbrev pub ends_on : Option (List ℕ) → List Act
ends_on None = []
ends_on (Some name) = End name ∷ []

-- the sessions on so many channels of a connection end, from a channel on
unfoldable pub ends_from : ℕ → World → ℕ → ℕ → List Act
ends_from zero w connection channel = []
ends_from (suc n) w connection channel = ends_on (w.holder connection channel) ++ ends_from n w connection (channel + 1)

-- how many channels a connection may have
unfoldable pub channels : ℕ
channels = 65536

-- the acts of an event; the sessions of a lost connection end by rising channel
abbrev pub event_acts : World → HubEvent → List Act
event_acts w event.Join = []
event_acts w (event.Unit connection channel (unit.Control control)) = control_acts w connection channel control
event_acts w (event.Unit connection channel (unit.Command sync command content)) =
    command_acts (w.holder connection channel) (life_at w (w.holder connection channel)) command
event_acts w (event.Drain connection) = []
event_acts w (event.Lost connection) = ends_from channels w connection 0
event_acts w (event.Tick now) = []

-- all acts, each new command once and in its session's order
abbrev pub acts : List Arrival → List Act
acts [] = []
acts (Hears event ∷ h) = acts h ++ event_acts (world h) event
acts (Restart ∷ h) = acts h

-- what a command does
abbrev pub does : State → Command → State
does s (QueueDeclare (Some name) alternate passive durable exclusive auto_delete arguments) = record { queues = insert_key (slice_cmp nat_cmp) s.queues name }
does s command = s

-- what an act does
abbrev pub acted : State → Act → State
acted s (Begin session) = s
acted s (Do session number command) = does s command
acted s (End session) = s

-- the broker after all that was heard
unfoldable pub state : List Arrival → State
state h = fold acted (record { queues = [] }) (acts h)

-- what a command leaves of the queues, where its number is new
abbrev pub queues_by : Option (List Heard) → List (List ℕ) → Command → List (List ℕ)
queues_by None queues command = queues
queues_by (Some life) queues command = if is_new life then (does (record { queues = queues }) command).queues else queues

-- what an event leaves of the queues
abbrev pub queues_after : World → List (List ℕ) → HubEvent → List (List ℕ)
queues_after w queues event.Join = queues
queues_after w queues (event.Unit connection channel (unit.Control control)) = queues
queues_after w queues (event.Unit connection channel (unit.Command sync command content)) = queues_by (life_at w (w.holder connection channel)) queues command
queues_after w queues (event.Drain connection) = queues
queues_after w queues (event.Lost connection) = queues
queues_after w queues (event.Tick now) = queues

-- a queue that is there is declared again; a new one has a name that isn't reserved, while fewer than 65,536 are there
abbrev pub may_declare : State → List ℕ → Bool
may_declare s name =
    (not (length name == 0) && not (starts_with nat_eq name (codes "amq.")))
    && (list_any (is_name name) s.queues || nat_lt (length s.queues) 65536)

-- a session whose numbers aren't at their end, nor would be after the command
abbrev pub may_arrive : Option (List Heard) → Bool
may_arrive None = false
may_arrive (Some life) = nat_lt (next life) (2 ^ 62) && nat_lt (next (Does ∷ life)) (2 ^ 62)

-- a number that is there, and not above the limit
abbrev pub is_within : Option ℕ → ℕ → Bool
is_within None limit = false
is_within (Some n) limit = nat_le n limit

-- a command-point is right where its number isn't above the next
abbrev pub may_point : Option (List Heard) → ℕ → ℕ → Bool
may_point None id offset = false
may_point (Some life) id offset = is_within (pointed (Some life) id offset) (next life)

-- the controls whose rules stand: attach of a new session, whose name its field holds, and a right command-point
abbrev pub covers_control : World → ℕ → ℕ → Control → Bool
covers_control w connection channel (SessionAttach (Some name) force) = (may_attach w connection channel name && not force) && nat_le (length name) 65535
covers_control w connection channel (SessionCommandPoint (Some id) (Some offset)) = may_point (life_at w (w.holder connection channel)) id offset
covers_control w connection channel control = false

-- the commands whose rules stand: a declare of a queue by its name alone
abbrev pub declares : State → Command → Bool
declares s (QueueDeclare (Some name) None false false false false None) = may_declare s name
declares s command = false

abbrev pub covers_command : World → State → ℕ → ℕ → Command → Bool
covers_command w s connection channel command = may_arrive (life_at w (w.holder connection channel)) && declares s command

-- the units whose rules stand
abbrev pub covers_unit : World → State → ℕ → ℕ → AnyUnit → Bool
covers_unit w s connection channel (unit.Control control) = covers_control w connection channel control
covers_unit w s connection channel (unit.Command false command None) = covers_command w s connection channel command
covers_unit w s connection channel (unit.Command sync command content) = false

-- the events for which what follows is the whole truth; the rest isn't built yet
abbrev pub covered : World → State → HubEvent → Bool
covered w s event.Join = true
covered w s (event.Unit connection channel unit) = covers_unit w s connection channel unit
covered w s (event.Drain connection) = true
covered w s (event.Lost connection) = true
covered w s (event.Tick now) = false
