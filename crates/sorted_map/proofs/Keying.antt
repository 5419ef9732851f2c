-- What stands at an index of sorted entries, and what a change there makes of them.
use Rattle.std.proofs.Common.{◌≡◌, ℕ, zero, suc, ◌<◌, Bool, true, false, not, if◌then◌else◌, List, [], ◌∷◌, ◌++◌, length, slice_index_or, slice_set, Option, None, Some, refl, sym, ap, ◌∙◌, arith}
use Rattle.std.proofs.lemmas.Bool.{true≢false}
use Rattle.std.specs.Cmp.{IsTotalOrder}
use Rattle.std.specs.Ordering.{is_lt, is_eq}
use Rattle.std.specs.declared.cmp.Ordering.{Ordering}
use Rattle.std.specs.declared.cmp.Ordering.TheVariants.{Less, Equal, Greater}
use Rattle.std.specs.List.{AllByRecursion}
use Rattle.std.specs.List.Sorted.{IsStrictlySortedBy}
use Rattle.sorted_map.specs.Cuts.{before, within, behind}
use Rattle.sorted_map.specs.Map.{by_key, from_key, first_of, find, out, value_at, with_value}
use Rattle.sorted_map.proofs.Sorting.{parts}
use Rattle.sorted_map.proofs.Ordering.{rises}

module _ {K T : Type 0} where
  pub value_is : (es : List (K × T)) (i : ℕ) (e : K × T) → i < length es → e ≡ slice_index_or es i e → value_at es i ≡ Some e.1
  value_is [] i e lt is = absurd (omega (arith, lt))
  value_is (x ∷ xs) zero e lt is = ap (λ (y : K × T). Some y.1) (sym is)
  value_is (x ∷ xs) (suc i) e lt is = value_is xs i e (omega (arith, lt)) is

  pub set_is : (es : List (K × T)) (i : ℕ) (e : K × T) (value : T) → i < length es → e ≡ slice_index_or es i e → slice_set es i (e.0, value) ≡ with_value es i value
  set_is [] i e value lt is = absurd (omega (arith, lt))
  set_is (x ∷ xs) zero e value lt is = ap (λ (y : K × T). (y.0, value) ∷ xs) is
  set_is (x ∷ xs) (suc i) e value lt is = ap (λ (ys : List (K × T)). x ∷ ys) (set_is xs i e value (omega (arith, lt)) is)

  module _ (cmp : K → K → Ordering) where
    -- the entry with the key has it
    pub keyed_so : (key : K) (es : List (K × T)) (e : K × T) → 0 < length (within (from_key cmp key) es) → e ≡ slice_index_or (within (from_key cmp key) es) 0 e → cmp e.0 key ≡ Equal
    keyed_so key es e lt is = ap (λ (x : K × T). cmp x.0 key) is ∙ equal (from_key cmp key (slice_index_or (within (from_key cmp key) es) 0 e)) (first es lt) where
      equal : (o : Ordering) → is_eq o ≡ true → o ≡ Equal
      equal Less f = absurd (true≢false (sym f))
      equal Equal f = refl
      equal Greater f = absurd (true≢false (sym f))

      first : (es : List (K × T)) → 0 < length (within (from_key cmp key) es) → is_eq (from_key cmp key (slice_index_or (within (from_key cmp key) es) 0 e)) ≡ true
      first [] lt = absurd (omega (arith, lt))
      first (x ∷ xs) lt = go (is_eq (from_key cmp key x)) refl lt (λ (l : 0 < length (within (from_key cmp key) xs)). first xs l) where
        go : (b : Bool) → is_eq (from_key cmp key x) ≡ b → 0 < length (if b then x ∷ within (from_key cmp key) xs else within (from_key cmp key) xs) → (0 < length (within (from_key cmp key) xs) → is_eq (from_key cmp key (slice_index_or (within (from_key cmp key) xs) 0 e)) ≡ true)
            → is_eq (from_key cmp key (slice_index_or (if b then x ∷ within (from_key cmp key) xs else within (from_key cmp key) xs) 0 e)) ≡ true
        go true f lt ih = f
        go false f lt ih = ih lt

    -- a key that is taken out stands for nothing
    pub gone : (key : K) (es : List (K × T)) → find cmp key (out cmp key es) ≡ None
    gone key es = nothing (within (from_key cmp key) (out cmp key es)) (none es) where
      nothing : (ws : List (K × T)) → ws ≡ [] → ◌≡◌ {A = Option T} (elim ws [ [] ↦ None | w ∷ more ↦ Some w.1 ]) None
      nothing [] e = refl
      nothing (w ∷ ws) e = absurd (omega (arith, ap length e))

      none : (es : List (K × T)) → within (from_key cmp key) (out cmp key es) ≡ []
      none [] = refl
      none (x ∷ xs) = go (is_eq (from_key cmp key x)) refl (none xs) where
        go : (b : Bool) → is_eq (from_key cmp key x) ≡ b → within (from_key cmp key) (out cmp key xs) ≡ [] → within (from_key cmp key) (if not b then x ∷ out cmp key xs else out cmp key xs) ≡ []
        go true f ih = ih
        go false f ih = ap (λ (c : Bool). if c then x ∷ within (from_key cmp key) (out cmp key xs) else within (from_key cmp key) (out cmp key xs)) f ∙ ih

    -- the order looks at keys alone
    pub still_sorted : (es : List (K × T)) (i : ℕ) (value : T) → IsStrictlySortedBy (by_key cmp) es → IsStrictlySortedBy (by_key cmp) (with_value es i value)
    unfolding IsStrictlySortedBy
    still_sorted [] i value s = tt
    still_sorted (x ∷ xs) zero value s = s
    still_sorted (x ∷ xs) (suc i) value s = (each xs i s.0, still_sorted xs i value s.1) where
      each : (ys : List (K × T)) (i : ℕ) → AllByRecursion (λ y. by_key cmp x y ≡ Less) ys → AllByRecursion (λ y. by_key cmp x y ≡ Less) (with_value ys i value)
      each [] i a = a
      each (y ∷ ys) zero a = a
      each (y ∷ ys) (suc i) a = (a.0, each ys i a.1)

    module _ (total : IsTotalOrder cmp) where
      -- the key with those before it stands at their count
      pub at_point : (key : K) (es : List (K × T)) → IsStrictlySortedBy (by_key cmp) es → 0 < length (within (from_key cmp key) es) → value_at es (length (before (from_key cmp key) es)) ≡ find cmp key es
      at_point key es s lt = ap (λ (xs : List (K × T)). value_at xs (length (before (from_key cmp key) es))) (parts (from_key cmp key) (by_key cmp) (rises cmp total key) es s) ∙ (skip (before (from_key cmp key) es) (within (from_key cmp key) es ++ behind (from_key cmp key) es) ∙ go (within (from_key cmp key) es) lt) where
        skip : (xs ys : List (K × T)) → value_at (xs ++ ys) (length xs) ≡ value_at ys 0
        skip [] ys = refl
        skip (x ∷ xs) ys = skip xs ys

        go : (ws : List (K × T)) → 0 < length ws → value_at (ws ++ behind (from_key cmp key) es) 0 ≡ (elim ws [ [] ↦ None | w ∷ more ↦ Some w.1 ])
        go [] lt = absurd (omega (arith, lt))
        go (w ∷ ws) lt = refl

      -- what is written where a key stands is what it stands for then
      pub find_written : (key : K) (es : List (K × T)) (value : T) → IsStrictlySortedBy (by_key cmp) es → 0 < length (within (from_key cmp key) es) → find cmp key (with_value es (length (before (from_key cmp key) es)) value) ≡ Some value
      find_written key es value s lt = ap (λ (xs : List (K × T)). find cmp key (with_value xs (length (before (from_key cmp key) es)) value)) (parts (from_key cmp key) (by_key cmp) (rises cmp total key) es s) ∙ go (within (from_key cmp key) es) lt (λ e. keyed_so key es e lt) where
        skip : (xs ys : List (K × T)) → with_value (xs ++ ys) (length xs) value ≡ xs ++ with_value ys 0 value
        skip [] ys = refl
        skip (x ∷ xs) ys = ap (λ (zs : List (K × T)). x ∷ zs) (skip xs ys)

        -- those before a key aren't with it
        apart_from : (o : Ordering) → is_lt o ≡ true → is_eq o ≡ false
        apart_from Less e = refl
        apart_from Equal e = absurd (true≢false (sym e))
        apart_from Greater e = refl

        none : (xs ys : List (K × T)) → within (from_key cmp key) (before (from_key cmp key) xs ++ ys) ≡ within (from_key cmp key) ys
        none [] ys = refl
        none (x ∷ xs) ys = one (is_lt (from_key cmp key x)) refl (none xs ys) where
          one : (b : Bool) → is_lt (from_key cmp key x) ≡ b → within (from_key cmp key) (before (from_key cmp key) xs ++ ys) ≡ within (from_key cmp key) ys → within (from_key cmp key) ((if b then x ∷ before (from_key cmp key) xs else before (from_key cmp key) xs) ++ ys) ≡ within (from_key cmp key) ys
          one true e ih = ap (λ (b : Bool). if b then x ∷ within (from_key cmp key) (before (from_key cmp key) xs ++ ys) else within (from_key cmp key) (before (from_key cmp key) xs ++ ys)) (apart_from (from_key cmp key x) e) ∙ ih
          one false e ih = ih

        go : (ws : List (K × T)) → 0 < length ws → ((e : K × T) → e ≡ slice_index_or ws 0 e → cmp e.0 key ≡ Equal) → find cmp key (with_value (before (from_key cmp key) es ++ (ws ++ behind (from_key cmp key) es)) (length (before (from_key cmp key) es)) value) ≡ Some value
        go [] lt is = absurd (omega (arith, lt))
        go (w ∷ ws) lt is =
            ap (find cmp key) (skip (before (from_key cmp key) es) (w ∷ (ws ++ behind (from_key cmp key) es)))
            ∙ (ap first_of (none es ((w.0, value) ∷ (ws ++ behind (from_key cmp key) es)))
            ∙ ap (λ (o : Ordering). first_of (if is_eq o then (w.0, value) ∷ within (from_key cmp key) (ws ++ behind (from_key cmp key) es) else within (from_key cmp key) (ws ++ behind (from_key cmp key) es))) (is w refl))
