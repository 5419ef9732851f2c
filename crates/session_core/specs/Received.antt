-- What a receiver keeps, and what it stands for.
use Rattle.std.specs.Prelude.{◌≡◌, ℕ, ◌+◌, ◌^◌, ◌<◌, ◌≤◌, ◌==◌, nat_le, max, Bool, true, false, if◌then◌else◌, List, [], ◌∷◌, Option, None}
use Rattle.serial_ranges.specs.Runs.{names}
use Rattle.serial_ranges.specs.Serial.{unwrapped}
use Rattle.history_model.specs.Life.{Heard, number, taken, IsNext}

-- the least number that neither came nor was named by a gap, the number of the command that comes next, and the numbers beyond that gaps named
pub record Received : Type 0 where
  pub next : ℕ
  pub point : ℕ
  pub ahead : List (ℕ × ℕ)

-- a receiver stands for what its session heard; of the numbers below the next it need not keep any
pub record Receives (r : Received) (h : List Heard) : Type 0 where
  pub point_is : r.point ≡ number h
  pub next_is : IsNext h r.next
  pub ahead_is : (n : ℕ) → r.next ≤ n → names r.ahead n ≡ taken h n

-- numbers stay within reach: a gap that comes below 2^62 names none from here on
pub record IsWithin (r : Received) : Type 0 where
  pub low : r.point ≤ r.next
  pub high : r.next ≤ 2 ^ 62 + 2 ^ 33
  pub reach : (n : ℕ) → names r.ahead n ≡ true → n < 2 ^ 62 + 2 ^ 33

-- the number that a command-point names
abbrev pub pointed : ℕ → ℕ → ℕ → Option ℕ
pointed next serial offset = if offset == 0 then unwrapped next serial else None

-- what runs name from a number on
abbrev pub from_on : ℕ → List (ℕ × ℕ) → List (ℕ × ℕ)
from_on low [] = []
from_on low (run ∷ runs) = if nat_le low run.1 then (max run.0 low, run.1) ∷ from_on low runs else from_on low runs

-- of a set, numbers below the next may be gone, and no other
pub record IsLeft (old : List (ℕ × ℕ)) (next : ℕ) (new : List (ℕ × ℕ)) : Type 0 where
  pub none_new : (n : ℕ) → names new n ≡ true → names old n ≡ true
  pub from_next : (n : ℕ) → next ≤ n → names new n ≡ names old n

-- the first number from a start on that fails the test
pub record IsUnnamed (test : ℕ → Bool) (from n : ℕ) : Type 0 where
  pub from_there : from ≤ n
  pub missing : test n ≡ false
  pub before : (m : ℕ) → from ≤ m → m < n → test m ≡ true

-- runs name all numbers from a start up to before this one; where that is none, they don't name the start
pub record IsPast (runs : List (ℕ × ℕ)) (from n : ℕ) : Type 0 where
  pub from_there : from ≤ n
  pub before : (m : ℕ) → from ≤ m → m < n → names runs m ≡ true
  pub still : n ≡ from → names runs from ≡ false
