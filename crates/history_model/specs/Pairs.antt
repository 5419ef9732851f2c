-- A table of the code beside a table of the definitions: the same keys, and related values.
use Rattle.std.specs.Prelude.{List, [], ◌∷◌, Option, None, Some}

-- row by row
pub data Paired {K X Y : Type 0} (R : X → Y → Type 0) : List (K × X) → List (K × Y) → Type 0 where
  none : Paired R [] []
  more : {k : K} {x : X} {y : Y} {es : List (K × X)} {fs : List (K × Y)} → R x y → Paired R es fs → Paired R ((k, x) ∷ es) ((k, y) ∷ fs)

-- both are there, and related, or neither
abbrev pub Both : {X Y : Type 0} → (X → Y → Type 0) → Option X → Option Y → Type 0
Both R None None = Unit {0}
Both R None (Some y) = ⊥
Both R (Some x) None = ⊥
Both R (Some x) (Some y) = R x y
