-- Keys in order, with what they stand for.
use Rattle.std.specs.Prelude.{ℕ, zero, suc, List, [], ◌∷◌, ◌++◌, length, map, Option, None, Some, refl}
use Rattle.std.specs.Coded.{Coded, code_by, coded×, coded_ℕ, coded_list}
use Rattle.std.specs.declared.cmp.Ordering.{Ordering}
use Rattle.sorted_map.specs.Cuts.{before, within, behind, outside}

-- keys in order with what they stand for, and the room for more
pub record Mapped (K T : Type 0) : Type 0 where
  pub entries : List (K × T)
  pub room : ℕ

-- it is stored as the tuple of its fields
abbrev pub mapped_code : {K T : Type 0} → Coded K → Coded T → Coded (Mapped K T)
mapped_code {K} {T} key value = code_by (List (K × T) × ℕ) (coded× (coded_list (coded× key value)) coded_ℕ) (λ v. (v.entries, v.room)) (λ p. record { entries = p.0; room = p.1 }) (λ _. refl)

-- what each key stands for, seen by a function
abbrev pub seen : {K T U : Type 0} → (T → U) → List (K × T) → List (K × U)
seen look es = map (λ e. (e.0, look e.1)) es

module _ {K T : Type 0} where
  abbrev pub first_of : List (K × T) → Option T
  first_of [] = None
  first_of (e ∷ es) = Some e.1

  -- what the key at an index stands for
  abbrev pub value_at : List (K × T) → ℕ → Option T
  value_at [] index = None
  value_at (e ∷ es) zero = Some e.1
  value_at (e ∷ es) (suc index) = value_at es index

  -- the key at an index
  abbrev pub key_at : List (K × T) → ℕ → Option K
  key_at [] index = None
  key_at (e ∷ es) zero = Some e.0
  key_at (e ∷ es) (suc index) = key_at es index

  -- where the key at an index stands for another value
  abbrev pub with_value : List (K × T) → ℕ → T → List (K × T)
  with_value [] index value = []
  with_value (e ∷ es) zero value = (e.0, value) ∷ es
  with_value (e ∷ es) (suc index) value = e ∷ with_value es index value

  -- where what the key at an index stands for is changed; where there is no such index, all as it was
  abbrev pub changed_at : ℕ → (T → T) → List (K × T) → List (K × T)
  changed_at index change [] = []
  changed_at zero change (e ∷ es) = (e.0, change e.1) ∷ es
  changed_at (suc index) change (e ∷ es) = e ∷ changed_at index change es

  abbrev pub changed_if : Option T → ℕ → (T → T) → List (K × T) → List (K × T)
  changed_if None index change es = es
  changed_if (Some value) index change es = changed_at index change es

  module _ (cmp : K → K → Ordering) where
    abbrev pub by_key : K × T → K × T → Ordering
    by_key a b = cmp a.0 b.0

    -- where an entry stands, seen from a key
    abbrev pub from_key : K → K × T → Ordering
    from_key key e = cmp e.0 key

    -- what a key stands for
    abbrev pub find : K → List (K × T) → Option T
    find key es = first_of (within (from_key key) es)

    -- with a key that isn't there
    abbrev pub put : K → T → List (K × T) → List (K × T)
    put key value es = before (from_key key) es ++ (key, value) ∷ behind (from_key key) es

    -- without a key
    abbrev pub out : K → List (K × T) → List (K × T)
    out key es = outside (from_key key) es

    -- the index of a key, counted from 0, or where it would go
    abbrev pub index_of : K → List (K × T) → ℕ
    index_of key es = length (before (from_key key) es)

    -- where what a key stands for is changed; where it isn't there, all as it was
    abbrev pub changed : K → (T → T) → List (K × T) → List (K × T)
    changed key change es = changed_if (find key es) (index_of key es) change es
