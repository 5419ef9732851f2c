-- Where the lines of octets break.
use Rattle.std.specs.Prelude.{◌≡◌, ℕ, ◌+◌, ◌<◌, ◌==◌, false, List, ◌∷◌, ◌++◌, length, take, drop}
use Rattle.std.specs.List.{list_any}

-- no LF is among the octets
abbrev pub IsUnbroken : List ℕ → Type 0
IsUnbroken octets = list_any (λ octet. octet == 10) octets ≡ false

-- the first LF stands at this index
pub record BreaksAtFirst (octets : List ℕ) (index : ℕ) : Type 0 where
  pub within : index < length octets
  pub before : IsUnbroken (take index octets)
  pub parts : octets ≡ take index octets ++ 10 ∷ drop (index + 1) octets
