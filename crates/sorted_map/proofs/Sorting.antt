-- A sorted list in three parts about a cut, and keys under which a list stands.
use Rattle.std.proofs.Common.{◌≡◌, ℕ, zero, suc, ◌+◌, ◌<◌, ◌≤◌, Bool, true, false, if◌then◌else◌, List, [], ◌∷◌, ◌++◌, ◌⊎◌, inl, inr, length, map, drop, filter, slice_index_or, Option, None, Some, refl, sym, ap, subst, ◌∙◌, arith}
use Rattle.std.proofs.lemmas.Bool.{true≢false, cases_lt}
use Rattle.std.proofs.lemmas.Map.Keys.{Less-from_sorted}
use Rattle.std.specs.Cmp.{IsTotalOrder}
use Rattle.std.specs.Ordering.{is_lt, is_le, is_gt, is_eq, ordering_index, ordering_reverse}
use Rattle.std.specs.declared.cmp.Ordering.{Ordering}
use Rattle.std.specs.declared.cmp.Ordering.TheVariants.{Less, Equal, Greater}
use Rattle.std.specs.List.{AllByRecursion}
use Rattle.std.specs.List.Sorted.{IsStrictlySortedBy, IsPartitionPoint, IsPartitionedBy}
use Rattle.sorted_map.specs.Cuts.{push, collect, before, within, behind, slot_side, IsOrder}

module _ {K : Type 0} (R : K → K → Ordering) (total : IsTotalOrder R) where
  turned : (a b : K) (o : Ordering) → R a b ≡ o → R b a ≡ ordering_reverse o
  turned a b o e = total.antisymm b a ∙ ap ordering_reverse e

  -- what comes no later than another isn't later, seen from a third
  pub no_later : (t a b : K) → is_le (R a b) ≡ true → ordering_index (R a t) ≤ ordering_index (R b t)
  no_later t a b le = go (R a b) refl le where
    behind : (o : Ordering) → R b t ≡ o → R a b ≡ Less → ordering_index (R a t) ≤ ordering_index o
    behind Less e f = omega (arith, ap ordering_index (total.trans a b t f e))
    behind Equal e f = omega (arith, ap ordering_index (turned t a Greater (total.congr t b a (turned b t Equal e) ∙ turned a b Less f)))
    behind Greater e f = at_most (R a t) where
      at_most : (o : Ordering) → ordering_index o ≤ 2
      at_most Less = omega arith
      at_most Equal = omega arith
      at_most Greater = omega arith

    go : (o : Ordering) → R a b ≡ o → is_le o ≡ true → ordering_index (R a t) ≤ ordering_index (R b t)
    go Less e q = behind (R b t) refl e
    go Equal e q = omega (arith, ap ordering_index (total.congr a b t e))
    go Greater e q = absurd (true≢false (sym q))

-- a cut doesn't fall along an order
abbrev pub Rises : {X : Type 0} → (X → X → Ordering) → (X → Ordering) → Type 0
Rises {X} cmp side = (a b : X) → cmp a b ≡ Less → ordering_index (side a) ≤ ordering_index (side b)

module _ {X : Type 0} (side : X → Ordering) where
  -- with no element before, there are none
  pub no_before : (xs : List X) → AllByRecursion (λ x. 1 ≤ ordering_index (side x)) xs → before side xs ≡ []
  no_before [] h = refl
  no_before (x ∷ xs) h = go (side x) h.0 (no_before xs h.1) where
    go : (o : Ordering) → 1 ≤ ordering_index o → before side xs ≡ [] → (if is_lt o then x ∷ before side xs else before side xs) ≡ []
    go Less le e = absurd (omega (arith, le))
    go Equal le e = e
    go Greater le e = e

  pub no_within : (xs : List X) → AllByRecursion (λ x. 2 ≤ ordering_index (side x)) xs → within side xs ≡ []
  no_within [] h = refl
  no_within (x ∷ xs) h = go (side x) h.0 (no_within xs h.1) where
    go : (o : Ordering) → 2 ≤ ordering_index o → within side xs ≡ [] → (if is_eq o then x ∷ within side xs else within side xs) ≡ []
    go Less le e = absurd (omega (arith, le))
    go Equal le e = absurd (omega (arith, le))
    go Greater le e = e

  fewer : (low high : ℕ) → high ≤ low → (xs : List X) → AllByRecursion (λ x. low ≤ ordering_index (side x)) xs → AllByRecursion (λ x. high ≤ ordering_index (side x)) xs
  fewer low high le [] h = tt
  fewer low high le (x ∷ xs) h = (omega (arith, le, h.0), fewer low high le xs h.1)

  -- those up to the cut
  pub upto : (xs : List X) → length (filter (λ x. is_le (side x)) xs) ≡ length (before side xs) + length (within side xs)
  upto [] = refl
  upto (x ∷ xs) = go (side x) (upto xs) where
    go : (o : Ordering) → length (filter (λ x. is_le (side x)) xs) ≡ length (before side xs) + length (within side xs)
        → length (if is_le o then x ∷ filter (λ x. is_le (side x)) xs else filter (λ x. is_le (side x)) xs) ≡ length (if is_lt o then x ∷ before side xs else before side xs) + length (if is_eq o then x ∷ within side xs else within side xs)
    go Less e = omega (arith, e)
    go Equal e = omega (arith, e)
    go Greater e = e

  module _ (cmp : X → X → Ordering) (rise : Rises cmp side) where
    above : (x : X) (xs : List X) → AllByRecursion (λ y. cmp x y ≡ Less) xs → AllByRecursion (λ y. ordering_index (side x) ≤ ordering_index (side y)) xs
    above x [] h = tt
    above x (y ∷ ys) h = (rise x y h.0, above x ys h.1)

    -- a sorted list is what is before a cut, in it, and behind it
    pub parts : (xs : List X) → IsStrictlySortedBy cmp xs → xs ≡ before side xs ++ (within side xs ++ behind side xs)
    unfolding IsStrictlySortedBy
    parts [] s = refl
    parts (x ∷ xs) s = go (side x) refl (parts xs s.1) where
      from : (o : Ordering) → side x ≡ o → AllByRecursion (λ y. ordering_index o ≤ ordering_index (side y)) xs
      from o e = subst (λ (o : Ordering). AllByRecursion (λ y. ordering_index o ≤ ordering_index (side y)) xs) e (above x xs s.0)

      go : (o : Ordering) → side x ≡ o → xs ≡ before side xs ++ (within side xs ++ behind side xs)
          → x ∷ xs ≡ (if is_lt o then x ∷ before side xs else before side xs) ++ ((if is_eq o then x ∷ within side xs else within side xs) ++ (if is_gt o then x ∷ behind side xs else behind side xs))
      go Less e h = ap (λ (ys : List X). x ∷ ys) h
      go Equal e h =
          let none = no_before xs (from Equal e) in
          ap (λ (ys : List X). x ∷ ys) (h ∙ ap (λ (ys : List X). ys ++ (within side xs ++ behind side xs)) none)
          ∙ ap (λ (ys : List X). ys ++ (x ∷ (within side xs ++ behind side xs))) (sym none)
      go Greater e h =
          let none = no_before xs (fewer 2 1 (omega arith) xs (from Greater e)) in
          let nil = no_within xs (from Greater e) in
          ap (λ (ys : List X). x ∷ ys) (h ∙ (ap (λ (ys : List X). ys ++ (within side xs ++ behind side xs)) none ∙ ap (λ (ys : List X). ys ++ behind side xs) nil))
          ∙ (ap (λ (ys : List X). ys ++ (x ∷ behind side xs)) (sym nil) ∙ ap (λ (ys : List X). ys ++ (within side xs ++ x ∷ behind side xs)) (sym none))

-- ---- keys under which a list stands

module _ {X : Type 0} (at : ℕ → Option X) where
  pub shown_length : (ks : List ℕ) (xs : List X) → map at ks ≡ map Some xs → length ks ≡ length xs
  shown_length [] [] e = refl
  shown_length [] (x ∷ xs) e = absurd (no_cons e) where
    no_cons : [] ≡ Some x ∷ map Some xs → ⊥
    no_cons e = omega (arith, ap length e)
  shown_length (k ∷ ks) [] e = absurd (omega (arith, ap length e))
  shown_length (k ∷ ks) (x ∷ xs) e = ap suc (shown_length ks xs (tails e)) where
    tails : at k ∷ map at ks ≡ Some x ∷ map Some xs → map at ks ≡ map Some xs
    tails e = ap (drop 1) e

  pub shown_head : (k : ℕ) (ks : List ℕ) (x : X) (xs : List X) → at k ∷ map at ks ≡ Some x ∷ map Some xs → at k ≡ Some x
  shown_head k ks x xs e = ap (λ (os : List (Option X)). slice_index_or os 0 None) e

  pub shown_tail : (k : ℕ) (ks : List ℕ) (x : X) (xs : List X) → at k ∷ map at ks ≡ Some x ∷ map Some xs → map at ks ≡ map Some xs
  shown_tail k ks x xs e = ap (drop 1) e

  -- what is collected
  pub collected : (ks : List ℕ) (xs : List X) → map at ks ≡ map Some xs → collect at ks ≡ xs
  collected [] [] e = refl
  collected [] (x ∷ xs) e = absurd (omega (arith, ap length e))
  collected (k ∷ ks) [] e = absurd (omega (arith, ap length e))
  collected (k ∷ ks) (x ∷ xs) e = go (at k) (shown_head k ks x xs e) (collected ks xs (shown_tail k ks x xs e)) where
    go : (o : Option X) → o ≡ Some x → collect at ks ≡ xs → push o (collect at ks) ≡ x ∷ xs
    go o f h = ap (λ (o : Option X). push o (collect at ks)) f ∙ ap (λ (ys : List X). x ∷ ys) h

  pub shown_at : (ks : List ℕ) (xs : List X) → map at ks ≡ map Some xs → (i k : ℕ) (d : X) → i < length ks → at (slice_index_or ks i k) ≡ Some (slice_index_or xs i d)
  shown_at [] xs e i k d lt = absurd (omega (arith, lt))
  shown_at (l ∷ ks) [] e i k d lt = absurd (omega (arith, ap length e))
  shown_at (l ∷ ks) (x ∷ xs) e zero k d lt = shown_head l ks x xs e
  shown_at (l ∷ ks) (x ∷ xs) e (suc i) k d lt = shown_at ks xs (shown_tail l ks x xs e) i k d (omega (arith, lt))

  -- as many pass a test
  pub shown_count : (test : Option X → Bool) (ks : List ℕ) (xs : List X) → map at ks ≡ map Some xs → length (filter (λ k. test (at k)) ks) ≡ length (filter (λ x. test (Some x)) xs)
  shown_count test [] [] e = refl
  shown_count test [] (x ∷ xs) e = absurd (omega (arith, ap length e))
  shown_count test (k ∷ ks) [] e = absurd (omega (arith, ap length e))
  shown_count test (k ∷ ks) (x ∷ xs) e = go (test (at k)) (test (Some x)) (ap test (shown_head k ks x xs e)) (shown_count test ks xs (shown_tail k ks x xs e)) where
    go : (b c : Bool) → b ≡ c → length (filter (λ k. test (at k)) ks) ≡ length (filter (λ x. test (Some x)) xs)
        → length (if b then k ∷ filter (λ k. test (at k)) ks else filter (λ k. test (at k)) ks) ≡ length (if c then x ∷ filter (λ x. test (Some x)) xs else filter (λ x. test (Some x)) xs)
    go true true f h = ap suc h
    go true false f h = absurd (true≢false f)
    go false true f h = absurd (true≢false (sym f))
    go false false f h = h

-- a partition point is how many pass
pub point_is : {X : Type 0} (p : X → Bool) (xs : List X) (i : ℕ) → i ≤ length xs → IsPartitionPoint (λ y. p y ≡ true) (λ y. p y ≡ false) xs i → i ≡ length (filter p xs)
point_is p [] i le h = omega (arith, le)
point_is p (x ∷ xs) zero le h = go (p x) (h.1 0 x (omega arith) (omega arith)) (point_is p xs zero (omega arith) ((λ k d low high. absurd (omega (arith, high))), (λ k d low high. h.1 (suc k) d (omega arith) (omega (arith, high))))) where
  go : (b : Bool) → b ≡ false → zero ≡ length (filter p xs) → zero ≡ length (if b then x ∷ filter p xs else filter p xs)
  go true f e = absurd (true≢false f)
  go false f e = e
point_is p (x ∷ xs) (suc i) le h = go (p x) (h.0 0 x (omega arith) (omega arith)) (point_is p xs i (omega (arith, le)) ((λ k d low high. h.0 (suc k) d (omega arith) (omega (arith, high))), (λ k d low high. h.1 (suc k) d (omega (arith, low)) (omega (arith, high))))) where
  go : (b : Bool) → b ≡ true → i ≡ length (filter p xs) → suc i ≡ length (if b then x ∷ filter p xs else filter p xs)
  go true f e = ap suc e
  go false f e = absurd (true≢false (sym f))

module _ {X : Type 0} (cmp : X → X → Ordering) (side : X → Ordering) (rise : Rises cmp side) (at : ℕ → Option X) where
  rises_at : (ks : List ℕ) (xs : List X) → map at ks ≡ map Some xs → IsStrictlySortedBy cmp xs → (i j k : ℕ) → i ≤ j → j < length ks → ordering_index (slot_side side (at (slice_index_or ks i k))) ≤ ordering_index (slot_side side (at (slice_index_or ks j k)))
  rises_at ks [] e s i j k le lt = absurd (omega (arith, lt, shown_length at ks [] e))
  rises_at ks (x ∷ xs) e s i j k le lt = go (cases_lt i j) where
    here : (n : ℕ) → n < length ks → ordering_index (slot_side side (at (slice_index_or ks n k))) ≡ ordering_index (side (slice_index_or (x ∷ xs) n x))
    here n m = ap (λ (o : Option X). ordering_index (slot_side side o)) (shown_at at ks (x ∷ xs) e n k x m)

    go : (i < j) ⊎ (j ≤ i) → ordering_index (slot_side side (at (slice_index_or ks i k))) ≤ ordering_index (slot_side side (at (slice_index_or ks j k)))
    go (inl less) = omega (arith, here i (omega (arith, less, lt)), here j lt, rise (slice_index_or (x ∷ xs) i x) (slice_index_or (x ∷ xs) j x) (Less-from_sorted cmp (x ∷ xs) i j x s less (omega (arith, lt, shown_length at ks (x ∷ xs) e))))
    go (inr more) = omega (arith, ap (λ (n : ℕ). ordering_index (slot_side side (at (slice_index_or ks n k)))) (same i j (omega (arith, le, more)))) where
      same : (a b : ℕ) → a ≡ b → a ≡ b
      same a b e = e

  falls : (p : Ordering → Bool) → ((a b : Ordering) → ordering_index a ≤ ordering_index b → p b ≡ true → p a ≡ true) → (ks : List ℕ) → IsOrder cmp at ks → IsPartitionedBy (λ k. p (slot_side side (at k))) ks
  falls p down ks o i j k le lt q = down (slot_side side (at (slice_index_or ks i k))) (slot_side side (at (slice_index_or ks j k))) (rises_at ks (collect at ks) o.shown o.sorted i j k le lt) q

  pub lt_parted : (ks : List ℕ) → IsOrder cmp at ks → IsPartitionedBy (λ k. is_lt (slot_side side (at k))) ks
  lt_parted ks o = falls is_lt down ks o where
    down : (a b : Ordering) → ordering_index a ≤ ordering_index b → is_lt b ≡ true → is_lt a ≡ true
    down Less b le q = refl
    down Equal Less le q = absurd (omega (arith, le))
    down Equal Equal le q = q
    down Equal Greater le q = q
    down Greater Less le q = absurd (omega (arith, le))
    down Greater Equal le q = q
    down Greater Greater le q = q

  pub le_parted : (ks : List ℕ) → IsOrder cmp at ks → IsPartitionedBy (λ k. is_le (slot_side side (at k))) ks
  le_parted ks o = falls is_le down ks o where
    down : (a b : Ordering) → ordering_index a ≤ ordering_index b → is_le b ≡ true → is_le a ≡ true
    down Less b le q = refl
    down Equal b le q = refl
    down Greater Less le q = absurd (omega (arith, le))
    down Greater Equal le q = absurd (omega (arith, le))
    down Greater Greater le q = q

  -- a point below which are those before the cut, and one below which are those up to it
  pub low_is : (ks : List ℕ) → IsOrder cmp at ks → (i : ℕ) → i ≤ length ks → (IsPartitionedBy (λ k. is_lt (slot_side side (at k))) ks → IsPartitionPoint (λ k. is_lt (slot_side side (at k)) ≡ true) (λ k. is_lt (slot_side side (at k)) ≡ false) ks i) → i ≡ length (before side (collect at ks))
  low_is ks o i le point = point_is (λ k. is_lt (slot_side side (at k))) ks i le (point (lt_parted ks o)) ∙ shown_count at (λ o. is_lt (slot_side side o)) ks (collect at ks) o.shown

  pub high_is : (ks : List ℕ) → IsOrder cmp at ks → (i : ℕ) → i ≤ length ks → (IsPartitionedBy (λ k. is_le (slot_side side (at k))) ks → IsPartitionPoint (λ k. is_le (slot_side side (at k)) ≡ true) (λ k. is_le (slot_side side (at k)) ≡ false) ks i) → i ≡ length (before side (collect at ks)) + length (within side (collect at ks))
  high_is ks o i le point = point_is (λ k. is_le (slot_side side (at k))) ks i le (point (le_parted ks o)) ∙ (shown_count at (λ o. is_le (slot_side side o)) ks (collect at ks) o.shown ∙ upto side (collect at ks))

module _ {X : Type 0} (at : ℕ → Option X) where
  -- under a list of keys that something stands under
  abbrev pub IsShown : List ℕ → Type 0
  IsShown ks = map at ks ≡ map Some (collect at ks)

  -- what stands under the first key
  pub first_shown : (k : ℕ) (ks : List ℕ) → IsShown (k ∷ ks) → (x : X) → at k ≡ Some x → collect at (k ∷ ks) ≡ x ∷ collect at ks
  first_shown k ks e x f = ap (λ (o : Option X). push o (collect at ks)) f

  pub none_shown : (k : ℕ) (ks : List ℕ) → IsShown (k ∷ ks) → at k ≡ None → ⊥
  none_shown k ks e f = go (collect at ks) (sym (ap (λ (o : Option X). o ∷ map at ks) f) ∙ (e ∙ ap (λ (o : Option X). map Some (push o (collect at ks))) f)) where
    go : (ys : List X) → None ∷ map at ks ≡ map Some ys → ⊥
    go [] e = omega (arith, ap length e)
    go (y ∷ ys) e = true≢false (ap (λ (os : List (Option X)). elim (slice_index_or os 0 None) [ None ↦ true | Some x ↦ false ]) e)

  pub rest_shown : (k : ℕ) (ks : List ℕ) → IsShown (k ∷ ks) → (x : X) → at k ≡ Some x → IsShown ks
  rest_shown k ks e x f = ap (drop 1) (e ∙ ap (λ (xs : List X). map Some xs) (first_shown k ks e x f))
