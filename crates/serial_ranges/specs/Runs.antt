-- Sets of numbers as runs: of a run both ends belong to it.
use Rattle.std.specs.Prelude.{◌≡◌, ℕ, ◌+◌, ◌<◌, ◌≤◌, ◌^◌, min, max, nat_le, Bool, true, false, ◌&&◌, ◌||◌, if◌then◌else◌, List, [], ◌∷◌, ◌++◌, length, take, drop}

abbrev pub within : ℕ × ℕ → ℕ → Bool
within run n = nat_le run.0 n && nat_le n run.1

-- a number is in one of the runs
abbrev pub names : List (ℕ × ℕ) → ℕ → Bool
names [] n = false
names (run ∷ runs) n = within run n || names runs n

-- the first begins at this number or after it, all end below 2^63, and between two of them a number is missing
abbrev pub Rise : ℕ → List (ℕ × ℕ) → Type 0
Rise low [] = Unit {0}
Rise low (run ∷ runs) = (low ≤ run.0) × (run.0 ≤ run.1) × (run.1 < 2 ^ 63) × Rise (run.1 + 2) runs

-- the maximal runs of a set
abbrev pub AreRuns : List (ℕ × ℕ) → Type 0
AreRuns runs = Rise 0 runs

-- ranges of numbers below 2^63, in any order
abbrev pub AreRanges : List (ℕ × ℕ) → Type 0
AreRanges [] = Unit {0}
AreRanges (range ∷ ranges) = (range.0 ≤ range.1) × (range.1 < 2 ^ 63) × AreRanges ranges

-- ---- what calls do to the set

abbrev pub Adds : List (ℕ × ℕ) → ℕ × ℕ → List (ℕ × ℕ) → Type 0
Adds old run new = (n : ℕ) → names new n ≡ (within run n || names old n)

abbrev pub AddsAll : List (ℕ × ℕ) → List (ℕ × ℕ) → List (ℕ × ℕ) → Type 0
AddsAll old ranges new = (n : ℕ) → names new n ≡ (names ranges n || names old n)

abbrev pub Cuts : List (ℕ × ℕ) → ℕ → List (ℕ × ℕ) → Type 0
Cuts old number new = (n : ℕ) → names new n ≡ (nat_le number n && names old n)

abbrev pub Meets : List (ℕ × ℕ) → List (ℕ × ℕ) → List (ℕ × ℕ) → Type 0
Meets one other both = (n : ℕ) → names both n ≡ (names one n && names other n)

-- n isn't in the set, and all from this number to before it are
pub record IsLeastMissing (runs : List (ℕ × ℕ)) (from n : ℕ) : Type 0 where
  pub from_there : from ≤ n
  pub missing : names runs n ≡ false
  pub before : (m : ℕ) → from ≤ m → m < n → names runs m ≡ true

-- ---- on the way

abbrev pub Every : (ℕ × ℕ → Type 0) → List (ℕ × ℕ) → Type 0
Every P [] = Unit {0}
Every P (run ∷ runs) = P run × Every P runs

-- the first i have the one, the rest the other
pub record IsSplit (P Q : ℕ × ℕ → Type 0) (runs : List (ℕ × ℕ)) (i : ℕ) : Type 0 where
  pub few : i ≤ length runs
  pub front : Every P (take i runs)
  pub back : Every Q (drop i runs)

-- the runs that end at this number or behind it
pub record IsBehind (runs : List (ℕ × ℕ)) (number : ℕ) (rest : List (ℕ × ℕ)) : Type 0 where
  pub front : List (ℕ × ℕ)
  pub parts : runs ≡ front ++ rest
  pub before : Every (λ run. run.1 < number) front
  pub from : Every (λ run. number ≤ run.1) rest

-- the least run that covers both
abbrev pub join : ℕ × ℕ → ℕ × ℕ → ℕ × ℕ
join a b = (min a.0 b.0, max a.1 b.1)

-- the first begins no earlier than this
abbrev pub trimmed : ℕ → List (ℕ × ℕ) → List (ℕ × ℕ)
trimmed number [] = []
trimmed number (run ∷ runs) = (max run.0 number, run.1) ∷ runs

-- what two runs have in common
abbrev pub common : ℕ × ℕ → ℕ × ℕ → List (ℕ × ℕ)
common a b = if nat_le (max a.0 b.0) (min a.1 b.1) then (max a.0 b.0, min a.1 b.1) ∷ [] else []

pub record IsMet (one other both : List (ℕ × ℕ)) : Type 0 where
  pub runs : AreRuns both
  pub meets : Meets one other both
