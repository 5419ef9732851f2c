-- Decimal numbers without a sign or a leading zero.
use Rattle.std.specs.Prelude.{ℕ, ◌+◌, ◌-◌, ◌*◌, ◌==◌, ◌&&◌, nat_le, if◌then◌else◌, List, [], ◌∷◌, Option, None, Some}

-- the number that digits spell, behind those that spelled this one
abbrev pub digits_from : ℕ → List ℕ → Option ℕ
digits_from number [] = Some number
digits_from number (digit ∷ digits) = if nat_le 48 digit && nat_le digit 57 then digits_from (10 * number + (digit - 48)) digits else None

-- a number that isn't above the greatest
abbrev pub upto : ℕ → Option ℕ → Option ℕ
upto greatest None = None
upto greatest (Some n) = if nat_le n greatest then Some n else None

-- the number that a word spells; a zero stands alone
abbrev pub number_in : ℕ → List ℕ → Option ℕ
number_in greatest [] = None
number_in greatest (digit ∷ []) = upto greatest (digits_from 0 (digit ∷ []))
number_in greatest (digit ∷ other ∷ digits) = if digit == 48 then None else upto greatest (digits_from 0 (digit ∷ other ∷ digits))
