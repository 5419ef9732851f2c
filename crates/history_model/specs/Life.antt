-- The life of a session is the list of what it heard, the newest first (AMQP 0-10, "session").
use Rattle.std.specs.Prelude.{ℕ, zero, suc, ◌+◌, ◌<◌, ◌≡◌, ◌==◌, ◌&&◌, ◌||◌, max, min, nat_lt, not, Bool, true, false, if◌then◌else◌, List, [], ◌∷◌, ◌++◌, length, drop, Option, None, Some}
use Rattle.std.specs.Option.{option_to_list}
use Rattle.serial_ranges.specs.Runs.{names}
use Rattle.serial_ranges.specs.Serial.{unwrapped_range}
use Rattle.amqp_values.specs.declared.value.Range.{Range}
use Rattle.amqp_terms.specs.declared.unit.Unit.{Unit as AnyUnit}

-- what a session hears, or what the broker gave in it; numbers are those of the life, and of a run both ends belong to it
pub data Heard : Type 0 where
  Attach : (connection channel : ℕ) → Heard
  Point : (number : ℕ) → Heard
  Does : Heard
  Gap : (runs : List (ℕ × ℕ)) → Heard
  Gave : (unit : AnyUnit) → Heard
  Expected : (number : ℕ) → Heard
  Confirmed : (runs : List (ℕ × ℕ)) → Heard
  Completed : (runs : List (ℕ × ℕ)) → Heard

-- the runs that ranges of serials stand for, near a reference
abbrev pub named : ℕ → List Range → List (ℕ × ℕ)
named reference [] = []
named reference (range ∷ ranges) = option_to_list (unwrapped_range reference range.lower range.upper) ++ named reference ranges

-- where the session stands: the connection and channel of its attachment
abbrev pub place : List Heard → Option (ℕ × ℕ)
place [] = None
place (Attach connection channel ∷ h) = Some (connection, channel)
place (_ ∷ h) = place h

-- the number of the command that comes next: the last command-point, plus the commands since
abbrev pub number : List Heard → ℕ
number [] = 0
number (Point n ∷ h) = n
number (Does ∷ h) = number h + 1
number (_ ∷ h) = number h

-- whether a command of this number came, or a gap named it
abbrev pub taken : List Heard → ℕ → Bool
taken [] n = false
taken (Does ∷ h) n = (n == number h) || taken h n
taken (Gap runs ∷ h) n = names runs n || taken h n
taken (_ ∷ h) n = taken h n

-- whether the command that comes next would be new
abbrev pub is_new : List Heard → Bool
is_new h = not (taken h (number h))

-- a number beyond all runs
abbrev pub past_runs : List (ℕ × ℕ) → ℕ
past_runs [] = 0
past_runs (run ∷ runs) = max (run.1 + 1) (past_runs runs)

-- a number beyond all that came
abbrev pub past : List Heard → ℕ
past [] = 0
past (Does ∷ h) = max (number h + 1) (past h)
past (Gap runs ∷ h) = max (past_runs runs) (past h)
past (_ ∷ h) = past h

-- the first number from a start on that fails the test, looked for so many times
abbrev pub first_free : ℕ → ℕ → (ℕ → Bool) → ℕ
first_free zero n test = n
first_free (suc fuel) n test = if test n then first_free fuel (n + 1) test else n

-- the least number that no command had and no gap named
unfoldable pub next : List Heard → ℕ
next h = first_free (past h) 0 (taken h)

-- what this number is
pub record IsNext (h : List Heard) (n : ℕ) : Type 0 where
  pub free : taken h n ≡ false
  pub below : (m : ℕ) → m < n → taken h m ≡ true

-- the commands that the broker gave, numbered from 0
abbrev pub replies : List Heard → List AnyUnit
replies [] = []
replies (Gave unit ∷ h) = replies h ++ unit ∷ []
replies (_ ∷ h) = replies h

-- how many they are
abbrev pub sent : List Heard → ℕ
sent h = length (replies h)

-- the number after the greatest one below a limit that runs name; 0 where they name none
abbrev pub past_named : ℕ → List (ℕ × ℕ) → ℕ
past_named limit [] = 0
past_named limit (run ∷ runs) = max (if nat_lt run.0 limit then min (run.1 + 1) limit else 0) (past_named limit runs)

-- the first of them that is kept: the peer expects none before it, and named none from it on as received
abbrev pub base : List Heard → ℕ
base [] = 0
base (Expected n ∷ h) = max n (base h)
base (Confirmed runs ∷ h) = max (past_named (sent h) runs) (base h)
base (Completed runs ∷ h) = max (past_named (sent h) runs) (base h)
base (_ ∷ h) = base h

-- those that are kept
abbrev pub kept : List Heard → List AnyUnit
kept h = drop (base h) (replies h)

-- whether a command that the broker gave wasn't named as completed since
abbrev pub uncompleted : List Heard → ℕ → Bool
uncompleted [] n = false
uncompleted (Gave unit ∷ h) n = (n == sent h) || uncompleted h n
uncompleted (Completed runs ∷ h) n = not (names runs n) && uncompleted h n
uncompleted (_ ∷ h) n = uncompleted h n
