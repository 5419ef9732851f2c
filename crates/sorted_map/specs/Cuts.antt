-- Parts of a list about a cut, and lists under keys.
use Rattle.std.specs.Prelude.{◌≡◌, ℕ, ◌+◌, ◌==◌, not, if◌then◌else◌, List, [], ◌∷◌, map, filter, Option, None, Some}
use Rattle.std.specs.Ordering.{is_lt, is_gt, is_eq}
use Rattle.std.specs.declared.cmp.Ordering.{Ordering}
use Rattle.std.specs.declared.cmp.Ordering.TheVariants.{Less}
use Rattle.std.specs.List.Sorted.{IsStrictlySortedBy}

abbrev pub push : {X : Type 0} → Option X → List X → List X
push None xs = xs
push (Some x) xs = x ∷ xs

-- what stands under keys, in order
abbrev pub collect : {X : Type 0} → (ℕ → Option X) → List ℕ → List X
collect at [] = []
collect at (k ∷ ks) = push (at k) (collect at ks)

-- how often a key is there
abbrev pub times : ℕ → List ℕ → ℕ
times k [] = 0
times k (l ∷ ls) = (if l == k then 1 else 0) + times k ls

module _ {X : Type 0} (side : X → Ordering) where
  -- those before a cut, in it, and behind it
  abbrev pub before : List X → List X
  before xs = filter (λ x. is_lt (side x)) xs

  abbrev pub within : List X → List X
  within xs = filter (λ x. is_eq (side x)) xs

  abbrev pub behind : List X → List X
  behind xs = filter (λ x. is_gt (side x)) xs

  -- all but those in it
  abbrev pub outside : List X → List X
  outside xs = filter (λ x. not (is_eq (side x))) xs

-- the side of what stands under a key; what is missing comes before
abbrev pub slot_side : {X : Type 0} → (X → Ordering) → Option X → Ordering
slot_side side None = Less
slot_side side (Some x) = side x

-- something stands under each key, in this order
pub record IsOrder {X : Type 0} (cmp : X → X → Ordering) (at : ℕ → Option X) (ks : List ℕ) : Type 0 where
  pub shown : map at ks ≡ map Some (collect at ks)
  pub sorted : IsStrictlySortedBy cmp (collect at ks)
