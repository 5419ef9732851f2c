-- Which session each connection and channel has, and what each session heard.
use Rattle.std.specs.Prelude.{ℕ, ◌+◌, ◌^◌, ◌==◌, ◌&&◌, nat_lt, not, Bool, false, is_some, if◌then◌else◌, List, [], ◌∷◌, length, filter, Option, None, Some}
use Rattle.std.specs.Map.{lookup, set_value}
use Rattle.std.specs.BTreeMap.{insert_entry, is_at}
use Rattle.std.specs.Ordering.{nat_cmp}
use Rattle.std.specs.Cmp.Lexicographic.{slice_cmp}
use Rattle.amqp_terms.specs.declared.unit.Unit.{Unit as AnyUnit}
use Rattle.amqp_terms.specs.declared.unit.Unit.TheVariants as unit
use Rattle.amqp_terms.specs.declared.control.Control.{Control}
use Rattle.amqp_terms.specs.declared.control.Control.TheVariants.{SessionAttach, SessionCommandPoint}
use Rattle.serial_ranges.specs.Serial.{unwrapped}
use Rattle.amqp_terms.specs.declared.event.HubEvent.{HubEvent}
use Rattle.amqp_terms.specs.declared.event.HubEvent.TheVariants as event
use Rattle.history_model.specs.Arrivals.{Arrival, Hears, Restart}
use Rattle.history_model.specs.Life.{Heard, Attach, Point, Does, next, place}

-- the connections that joined, who has each channel, and the lives by name
pub record World : Type 0 where
  pub joined : ℕ
  pub holder : ℕ → ℕ → Option (List ℕ)
  pub lives : List (List ℕ × List Heard)

-- whether a name is this one
abbrev pub is_name : List ℕ → List ℕ → Bool
is_name name = is_at (slice_cmp nat_cmp name)

-- the life of a name
abbrev pub life_of : World → List ℕ → Option (List Heard)
life_of w name = lookup (is_name name) w.lives

-- the life that has a channel of a connection
abbrev pub life_at : World → Option (List ℕ) → Option (List Heard)
life_at w None = None
life_at w (Some name) = life_of w name

-- a channel that no session has takes a name that no session has, while fewer than 1,024 live
abbrev pub may_attach : World → ℕ → ℕ → List ℕ → Bool
may_attach w connection channel name =
    not (is_some (w.holder connection channel)) && (not (is_some (life_of w name)) && nat_lt (length w.lives) 1024)

-- a new life begins on a channel
abbrev pub begins : World → ℕ → ℕ → List ℕ → World
begins w connection channel name = record {
  joined = w.joined;
  holder = λ c k. if (c == connection) && (k == channel) then Some name else w.holder c k;
  lives = insert_entry (slice_cmp nat_cmp) w.lives name (Attach connection channel ∷ []);
}

-- the life of a name hears one thing more
abbrev pub hears_in : List (List ℕ × List Heard) → List ℕ → Option (List Heard) → Heard → List (List ℕ × List Heard)
hears_in lives name None heard = lives
hears_in lives name (Some life) heard = set_value (is_name name) lives (heard ∷ life)

-- the life that has the channel hears it
abbrev pub heard_at : World → Option (List ℕ) → Heard → World
heard_at w None heard = w
heard_at w (Some name) heard = record { joined = w.joined; holder = w.holder; lives = hears_in w.lives name (life_of w name) heard }

-- a command-point that names a number up to the next one sets it
abbrev pub pointed : Option (List Heard) → ℕ → ℕ → Option ℕ
pointed None id offset = None
pointed (Some life) id offset = if offset == 0 then unwrapped (next life) id else None

abbrev pub point_at : World → Option (List ℕ) → Option ℕ → World
point_at w holder None = w
point_at w holder (Some n) = heard_at w holder (Point n)

-- what a control does to the standing of sessions
abbrev pub hears_control : World → ℕ → ℕ → Control → World
hears_control w connection channel (SessionAttach (Some name) force) = if may_attach w connection channel name then begins w connection channel name else w
hears_control w connection channel (SessionCommandPoint (Some id) (Some offset)) =
    point_at w (w.holder connection channel) (pointed (life_at w (w.holder connection channel)) id offset)
hears_control w connection channel control = w

-- what a unit does
abbrev pub hears_unit : World → ℕ → ℕ → AnyUnit → World
hears_unit w connection channel (unit.Control control) = hears_control w connection channel control
hears_unit w connection channel (unit.Command sync command content) = heard_at w (w.holder connection channel) Does

-- whether a place is on this connection
abbrev pub is_on : ℕ → Option (ℕ × ℕ) → Bool
is_on connection None = false
is_on connection (Some (c, k)) = c == connection

-- a connection is lost: its channels are free, and the sessions on it end, as none asked for a timeout
abbrev pub loses : World → ℕ → World
loses w connection = record {
  joined = w.joined;
  holder = λ c k. if c == connection then None else w.holder c k;
  lives = filter (λ row. not (is_on connection (place row.1))) w.lives;
}

-- what an event does
abbrev pub after_event : World → HubEvent → World
after_event w event.Join = record { joined = if nat_lt w.joined (2 ^ 62) then w.joined + 1 else w.joined; holder = w.holder; lives = w.lives }
after_event w (event.Unit connection channel unit) = hears_unit w connection channel unit
after_event w (event.Drain connection) = w
after_event w (event.Lost connection) = loses w connection
after_event w (event.Tick now) = w

-- the standing after all that was heard
abbrev pub world : List Arrival → World
world [] = record { joined = 0; holder = λ c k. None; lives = [] }
world (Hears event ∷ h) = after_event (world h) event
world (Restart ∷ h) = world h
