-- What a sender keeps, and what it stands for.
use Rattle.std.specs.Prelude.{◌≡◌, ℕ, ◌+◌, ◌^◌, ◌<◌, ◌≤◌, ◌==◌, ◌&&◌, not, List, [], ◌∷◌, length, take, drop, Bool}
use Rattle.std.specs.List.{list_any, slice_range, remove_range}
use Rattle.serial_ranges.specs.Runs.{names, within}
use Rattle.amqp_values.specs.declared.value.Range.{Range}
use Rattle.amqp_terms.specs.declared.unit.Unit.{Unit as AnyUnit}
use Rattle.history_model.specs.Life.{Heard, named, sent, base, kept, uncompleted}

-- the kept commands from the first one on, the numbers that aren't completed, rising, and for how many more there is room
pub record Sending : Type 0 where
  pub base : ℕ
  pub kept : List AnyUnit
  pub uncompleted : List ℕ
  pub room : ℕ

-- a number is in the list
abbrev pub has : List ℕ → ℕ → Bool
has numbers n = list_any (λ m. m == n) numbers

-- how many were given
abbrev pub sent_by : Sending → ℕ
sent_by s = s.base + length s.kept

-- a sender stands for what its session heard
pub record Sends (s : Sending) (h : List Heard) : Type 0 where
  pub first_is : s.base ≡ base h
  pub sent_is : sent_by s ≡ sent h
  pub kept_is : s.kept ≡ kept h
  pub uncompleted_is : (n : ℕ) → has s.uncompleted n ≡ uncompleted h n

-- the numbers rise from a start on, and end before a limit
abbrev pub Rise : ℕ → ℕ → List ℕ → Type 0
Rise low limit [] = low ≤ limit
Rise low limit (n ∷ numbers) = (low ≤ n) × Rise (n + 1) limit numbers

-- the numbers of these ranges that aren't completed yet
abbrev pub IsFirsts : Sending → List Range → List (ℕ × ℕ) → Type 0
IsFirsts s ranges firsts = (n : ℕ) → names firsts n ≡ (names (named (sent_by s) ranges) n && has s.uncompleted n)

-- numbers stay within reach, and those that aren't completed were given
abbrev pub IsSending : ℕ → List AnyUnit → List ℕ → Type 0
IsSending base kept uncompleted = (base + length kept ≤ 2 ^ 62) × Rise 0 (base + length kept) uncompleted

-- ---- on the way

-- all are below a number
abbrev pub Below : ℕ → List ℕ → Type 0
Below limit [] = Unit {0}
Below limit (n ∷ numbers) = (n < limit) × Below limit numbers

-- all are that number or above it
abbrev pub From : ℕ → List ℕ → Type 0
From limit [] = Unit {0}
From limit (n ∷ numbers) = (limit ≤ n) × From limit numbers

-- the first i are below the number, and the rest aren't
pub record IsSplit (numbers : List ℕ) (number i : ℕ) : Type 0 where
  pub few : i ≤ length numbers
  pub front : Below number (take i numbers)
  pub back : From number (drop i numbers)

-- the numbers from lower to upper stand from the start-th to before the end-th
pub record IsBetween (numbers : List ℕ) (lower upper start end : ℕ) : Type 0 where
  pub order : start ≤ end
  pub few : end ≤ length numbers
  pub inside : (n : ℕ) → has (slice_range numbers start end) n ≡ (within (lower, upper) n && has numbers n)
  pub outside : (n : ℕ) → has (remove_range numbers start end) n ≡ (not (within (lower, upper) n) && has numbers n)
