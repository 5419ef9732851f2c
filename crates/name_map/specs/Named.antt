-- Names in order with what they stand for.
use Rattle.std.specs.Prelude.{◌≡◌, ℕ, ◌<◌, ◌≤◌, if◌then◌else◌, List, [], ◌∷◌, length, Option, None, Some, bytes_eq, refl}
use Rattle.std.specs.declared.cmp.Ordering.TheVariants.{Less, Equal, Greater}
use Rattle.std.specs.Ordering.{is_lt, nat_cmp}
use Rattle.std.specs.List.{HoldsAt}
use Rattle.std.specs.List.Sorted.{IsPartitionPoint}
use Rattle.std.specs.Cmp.Lexicographic.{slice_cmp}
use Rattle.std.specs.Coded.{Coded, code_by, coded×, coded_ℕ, coded_list}

pub record Named (T : Type 0) : Type 0 where
  pub entries : List (List ℕ × T)
  pub room : ℕ

-- it is stored as the tuple of its fields
abbrev pub named_code : {T : Type 0} → Coded T → Coded (Named T)
named_code {T} code = code_by (List (List ℕ × T) × ℕ) (coded× (coded_list (coded× (coded_list coded_ℕ) code)) coded_ℕ) (λ v. (v.entries, v.room)) (λ p. record { entries = p.0; room = p.1 }) (λ _. refl)

-- one name comes before another
abbrev pub Before : List ℕ → List ℕ → Type 0
Before a b = slice_cmp nat_cmp a b ≡ Less

module _ {T : Type 0} where
  abbrev pub EachName : (List ℕ → Type 0) → List (List ℕ × T) → Type 0
  EachName P [] = Unit {0}
  EachName P (e ∷ es) = P e.0 × EachName P es

  -- each name comes before those behind it
  abbrev pub Sorted : List (List ℕ × T) → Type 0
  Sorted [] = Unit {0}
  Sorted (e ∷ es) = EachName (Before e.0) es × Sorted es

  -- what a name stands for
  abbrev pub find : List ℕ → List (List ℕ × T) → Option T
  find name [] = None
  find name (e ∷ es) = if bytes_eq e.0 name then Some e.1 else find name es

  -- with a name that isn't there, before the first one behind it
  abbrev pub put : List ℕ → T → List (List ℕ × T) → List (List ℕ × T)
  put name value [] = (name, value) ∷ []
  put name value (e ∷ es) = if is_lt (slice_cmp nat_cmp name e.0) then (name, value) ∷ e ∷ es else e ∷ put name value es

  -- without a name
  abbrev pub out : List ℕ → List (List ℕ × T) → List (List ℕ × T)
  out name [] = []
  out name (e ∷ es) = if bytes_eq e.0 name then es else e ∷ out name es

  -- a name has this place
  abbrev pub IsPlace : List ℕ → List (List ℕ × T) → ℕ → Type 0
  IsPlace name es i = (i < length es) × HoldsAt (λ e. slice_cmp nat_cmp e.0 name ≡ Equal) es i

  -- a name would go at this place
  abbrev pub IsGap : List ℕ → List (List ℕ × T) → ℕ → Type 0
  IsGap name es i = (i ≤ length es) × IsPartitionPoint (λ e. slice_cmp nat_cmp e.0 name ≡ Less) (λ e. slice_cmp nat_cmp e.0 name ≡ Greater) es i
