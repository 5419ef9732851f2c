-- How the octets of a header come together.
use Rattle.std.specs.Prelude.{◌≡◌, ℕ, ◌+◌, ◌<◌, List, [], ◌∷◌, ◌++◌, length, Option, None, Some}

-- one octet more, or the twelfth
abbrev pub Grows : List ℕ → ℕ → List ℕ → Option (List ℕ) → Type 0
Grows old octet new None = (new ≡ old ++ octet ∷ []) × (length old + 1 < 12)
Grows old octet new (Some all) = (all ≡ old ++ octet ∷ []) × (length old + 1 ≡ 12) × (new ≡ [])
