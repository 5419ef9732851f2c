-- Rows that pass a test come in the same order from both orders of a table, where the test ties the exchange and the key.
use Rattle.std.proofs.Common.{◌≡◌, ◌≢◌, ℕ, ◌+◌, ◌<◌, ◌==◌, ◌&&◌, Bool, true, false, if◌then◌else◌, List, [], ◌∷◌, ◌⊎◌, inl, inr, length, map, filter, bytes_eq, Option, None, Some, refl, sym, ap, ◌∙◌, arith}
use Rattle.std.proofs.lemmas.Bool.{true≢false, cases_eq}
use Rattle.std.proofs.lemmas.Map.Text.{is_eq-slice_cmp}
use Rattle.std.proofs.lemmas.Cmp.{nat_cmp_total, nat_list_cmp_total}
use Rattle.std.specs.Cmp.{IsTotalOrder}
use Rattle.std.specs.Cmp.Lexicographic.{slice_cmp}
use Rattle.std.specs.Ordering.{on, is_lt, is_eq, nat_cmp, ordering_then, ordering_reverse}
use Rattle.std.specs.declared.cmp.Ordering.{Ordering}
use Rattle.std.specs.declared.cmp.Ordering.TheVariants.{Less, Equal, Greater}
use Rattle.std.specs.List.{AllByRecursion}
use Rattle.std.specs.List.Sorted.{IsStrictlySortedBy}
use Rattle.sorted_map.specs.Cuts.{times}
use Rattle.binding_table.specs.declared.order.By.TheVariants as by
use Rattle.binding_table.specs.declared.row.Row.{Row}
use Rattle.binding_table.specs.Spots.{spot, order}
use Rattle.sorted_map.specs.Cuts.{collect}
use Rattle.binding_table.specs.Rows.{Kept, has_key}
use Rattle.binding_table.proofs.Cuts.{row_total}
use Rattle.sorted_map.proofs.Sorting.{shown_head, shown_tail, shown_at, shown_length, collected}
use Rattle.sorted_map.proofs.Changing.{as_one, one_if, other_if, place_of, all_at, all_filter, sorted_filter, same_equal}

module _ {X : Type 0} (test : X → Bool) where
  abbrev slot_test : Option X → Bool
  slot_test None = false
  slot_test (Some x) = test x

  shown_filter : (at : ℕ → Option X) (ks : List ℕ) (xs : List X) → map at ks ≡ map Some xs → map at (filter (λ k. slot_test (at k)) ks) ≡ map Some (filter test xs)
  shown_filter at [] [] e = refl
  shown_filter at [] (x ∷ xs) e = absurd (omega (arith, ap length e))
  shown_filter at (k ∷ ks) [] e = absurd (omega (arith, ap length e))
  shown_filter at (k ∷ ks) (x ∷ xs) e = go (slot_test (at k)) (test x) (ap slot_test (shown_head at k ks x xs e)) (shown_head at k ks x xs e) (shown_filter at ks xs (shown_tail at k ks x xs e)) where
    go : (b c : Bool) → b ≡ c → at k ≡ Some x → map at (filter (λ k. slot_test (at k)) ks) ≡ map Some (filter test xs)
        → map at (if b then k ∷ filter (λ k. slot_test (at k)) ks else filter (λ k. slot_test (at k)) ks) ≡ map Some (if c then x ∷ filter test xs else filter test xs)
    go true true f h ih = ap (λ (o : Option X). o ∷ map at (filter (λ k. slot_test (at k)) ks)) h ∙ ap (λ (os : List (Option X)). Some x ∷ os) ih
    go true false f h ih = absurd (true≢false f)
    go false true f h ih = absurd (true≢false (sym f))
    go false false f h ih = ih

times_filter : (p : ℕ → Bool) (k : ℕ) (ks : List ℕ) → times k (filter p ks) ≡ (if p k then times k ks else 0)
times_filter p k [] = go (p k) where
  go : (b : Bool) → ◌≡◌ {A = ℕ} 0 (if b then 0 else 0)
  go true = refl
  go false = refl
times_filter p k (l ∷ ks) = here (cases_eq l k) (times_filter p k ks) where
  here : (l ≡ k) ⊎ (l ≢ k) → times k (filter p ks) ≡ (if p k then times k ks else 0) → times k (if p l then l ∷ filter p ks else filter p ks) ≡ (if p k then as_one l k + times k ks else 0)
  here (inl e) ih = go (p l) (p k) (ap p e) ih where
    go : (b c : Bool) → b ≡ c → times k (filter p ks) ≡ (if c then times k ks else 0) → times k (if b then l ∷ filter p ks else filter p ks) ≡ (if c then as_one l k + times k ks else 0)
    go true true f h = omega (arith, h)
    go true false f h = absurd (true≢false f)
    go false true f h = absurd (true≢false (sym f))
    go false false f h = h
  here (inr n) ih = go (p l) (p k) ih where
    go : (b c : Bool) → times k (filter p ks) ≡ (if c then times k ks else 0) → times k (if b then l ∷ filter p ks else filter p ks) ≡ (if c then as_one l k + times k ks else 0)
    go true true h = omega (arith, h)
    go true false h = omega (arith, h, other_if l k n)
    go false true h = omega (arith, h, other_if l k n)
    go false false h = h

module _ {X : Type 0} (cmp : X → X → Ordering) (total : IsTotalOrder cmp) (at : ℕ → Option X) where
  some_is : {a b : X} → ◌≡◌ {A = Option X} (Some a) (Some b) → a ≡ b
  some_is {a} {b} p = ap (λ (o : Option X). elim o [ None ↦ a | Some y ↦ y ]) p

  -- a key that stands further behind has more under it
  later : (y : X) (ls : List ℕ) (ys : List X) → map at ls ≡ map Some ys → AllByRecursion (λ z. cmp y z ≡ Less) ys → (k : ℕ) (x : X) → at k ≡ Some x → 0 < times k ls → cmp y x ≡ Less
  later y ls ys e s k x found there =
      let p = place_of k ls there in
      ap (cmp y) (some_is (sym found ∙ (ap at (sym (p.2 k)) ∙ shown_at at ls ys e p.0 k x p.1))) ∙ all_at cmp total (λ z. cmp y z ≡ Less) ys s p.0 x (omega (arith, p.1, shown_length at ls ys e))

  -- sorted lists under the same keys are the same
  same_list : (ks ls : List ℕ) (xs ys : List X) → map at ks ≡ map Some xs → map at ls ≡ map Some ys → IsStrictlySortedBy cmp xs → IsStrictlySortedBy cmp ys → ((k : ℕ) → times k ks ≡ times k ls) → ks ≡ ls
  unfolding IsStrictlySortedBy
  same_list [] [] xs ys e f s t h = refl
  same_list [] (l ∷ ls) xs ys e f s t h = absurd (omega (arith, h l, one_if l l refl))
  same_list (k ∷ ks) [] xs ys e f s t h = absurd (omega (arith, h k, one_if k k refl))
  same_list (k ∷ ks) (l ∷ ls) [] ys e f s t h = absurd (omega (arith, ap length e))
  same_list (k ∷ ks) (l ∷ ls) (x ∷ xs) [] e f s t h = absurd (omega (arith, ap length f))
  same_list (k ∷ ks) (l ∷ ls) (x ∷ xs) (y ∷ ys) e f s t h = go (cases_eq k l) (λ (g : (n : ℕ) → times n ks ≡ times n ls). same_list ks ls xs ys (shown_tail at k ks x xs e) (shown_tail at l ls y ys f) s.1 t.1 g) where
    less_both : cmp x y ≡ Less → cmp y x ≡ Less → ⊥
    less_both p q = true≢false (ap is_lt (sym (total.trans x y x p q) ∙ same_equal cmp total x))

    go : (k ≡ l) ⊎ (k ≢ l) → (((n : ℕ) → times n ks ≡ times n ls) → ks ≡ ls) → k ∷ ks ≡ l ∷ ls
    go (inl p) ih = ap (λ (n : ℕ). n ∷ ks) p ∙ ap (λ (ns : List ℕ). l ∷ ns) (ih (λ n. omega (arith, h n, ap (λ (m : ℕ). as_one m n) p)))
    go (inr n) ih =
        absurd
        (less_both
        (later x ks xs (shown_tail at k ks x xs e) s.0 l y (shown_head at l ls y ys f) (omega (arith, h l, one_if l l refl, other_if k l n)))
        (later y ls ys (shown_tail at l ls y ys f) t.0 k x (shown_head at k ks x xs e) (omega (arith, h k, one_if k k refl, other_if l k (λ q. n (sym q))))))

sorted_also : {X : Type 0} (c d : X → X → Ordering) (P : X → Type 0) → ((a b : X) → P a → P b → c a b ≡ Less → d a b ≡ Less) → (xs : List X) → AllByRecursion P xs → IsStrictlySortedBy c xs → IsStrictlySortedBy d xs
unfolding IsStrictlySortedBy
sorted_also c d P f [] p s = tt
sorted_also c d P f (x ∷ xs) p s = (each xs p.1 s.0, sorted_also c d P f xs p.1 s.1) where
  each : (ys : _) → AllByRecursion P ys → AllByRecursion (λ y. c x y ≡ Less) ys → AllByRecursion (λ y. d x y ≡ Less) ys
  each [] q h = tt
  each (y ∷ ys) q h = (f x y p.0 q.0 h.0, each ys q.1 h.1)

both_eq : (a b : Ordering) → is_eq (ordering_then a b) ≡ is_eq a && is_eq b
both_eq Less b = refl
both_eq Equal b = refl
both_eq Greater b = refl

nat_eq_is : (a b : ℕ) → is_eq (nat_cmp a b) ≡ (a == b)
nat_eq_is a b = grind (arith)

pub eq_parts : (a n : ℕ) (s t : List ℕ) → is_eq (ordering_then (nat_cmp a n) (slice_cmp nat_cmp s t)) ≡ (a == n) && bytes_eq s t
eq_parts a n s t = both_eq (nat_cmp a n) (slice_cmp nat_cmp s t) ∙ (ap (λ (b : Bool). b && is_eq (slice_cmp nat_cmp s t)) (nat_eq_is a n) ∙ ap (λ (b : Bool). (a == n) && b) (is_eq-slice_cmp s t))

parts_of : (a b : Ordering) → is_eq a && is_eq b ≡ true → (a ≡ Equal) × (b ≡ Equal)
parts_of Less b e = absurd (true≢false (sym e))
parts_of Equal Less e = absurd (true≢false (sym e))
parts_of Equal Equal e = (refl, refl)
parts_of Equal Greater e = absurd (true≢false (sym e))
parts_of Greater b e = absurd (true≢false (sym e))

same_to : {K : Type 0} (R : K → K → Ordering) → IsTotalOrder R → (a b t : K) → R a t ≡ Equal → R b t ≡ Equal → R a b ≡ Equal
same_to R total a b t e f = total.congr a t b e ∙ (total.antisymm t b ∙ ap ordering_reverse f)

module _ {A : Type 0} (n : ℕ) (key : List ℕ) where
  abbrev Tied : Row A → Type 0
  Tied r = (nat_cmp r.exchange n ≡ Equal) × (slice_cmp nat_cmp r.binding.key key ≡ Equal)

  tied : (r : Row A) → has_key n key r ≡ true → Tied r
  tied r e = parts_of (nat_cmp r.exchange n) (slice_cmp nat_cmp r.binding.key key) (sym (both_eq (nat_cmp r.exchange n) (slice_cmp nat_cmp r.binding.key key)) ∙ (eq_parts r.exchange n r.binding.key key ∙ e))

  by_key_also : (a b : Row A) → Tied a → Tied b → order by.Key (spot a) (spot b) ≡ Less → order by.Queue (spot a) (spot b) ≡ Less
  by_key_also a b s t e = go (nat_cmp a.exchange b.exchange) (slice_cmp nat_cmp a.binding.key b.binding.key) (slice_cmp nat_cmp a.binding.queue b.binding.queue) (same_to nat_cmp nat_cmp_total a.exchange b.exchange n s.0 t.0) (same_to (slice_cmp nat_cmp) nat_list_cmp_total a.binding.key b.binding.key key s.1 t.1) e where
    go : (x k q : Ordering) → x ≡ Equal → k ≡ Equal → ordering_then (ordering_then x k) q ≡ Less → ordering_then (ordering_then x q) k ≡ Less
    go x k q e f h = ap (λ (o : Ordering). ordering_then (ordering_then o q) k) e ∙ (ap (λ (o : Ordering). ordering_then q o) f ∙ last q (sym (ap (λ (o : Ordering). ordering_then (ordering_then o k) q) e ∙ ap (λ (o : Ordering). ordering_then o q) f) ∙ h)) where
      last : (q : Ordering) → ordering_then Equal q ≡ Less → ordering_then q Equal ≡ Less
      last Less h = refl
      last Equal h = h
      last Greater h = h

  -- the rows with a key come by queue from both orders
  pub crossed : (at : ℕ → Option (Row A)) (ks ls : List ℕ) → Kept at ks ls → filter (has_key n key) (collect at ls) ≡ filter (has_key n key) (collect at ks)
  crossed at ks ls kept =
      let test = slot_test (has_key n key) in
      let low = shown_filter (has_key n key) at ks (collect at ks) kept.by_queue.shown in
      let high = shown_filter (has_key n key) at ls (collect at ls) kept.by_key.shown in
      let same = same_list (on spot (order by.Queue)) (row_total by.Queue) at (filter (λ k. test (at k)) ks) (filter (λ k. test (at k)) ls) (filter (has_key n key) (collect at ks)) (filter (has_key n key) (collect at ls)) low high
      (sorted_filter (on spot (order by.Queue)) (row_total by.Queue) (has_key n key) (collect at ks) kept.by_queue.sorted)
      (sorted_also (on spot (order by.Key)) (on spot (order by.Queue)) Tied by_key_also (filter (has_key n key) (collect at ls)) (all_filter (on spot (order by.Key)) (row_total by.Key) (has_key n key) Tied tied (collect at ls)) (sorted_filter (on spot (order by.Key)) (row_total by.Key) (has_key n key) (collect at ls) kept.by_key.sorted))
      (λ k. times_filter (λ k. test (at k)) k ks ∙ (ap (λ (m : ℕ). if test (at k) then m else 0) (kept.alike k) ∙ sym (times_filter (λ k. test (at k)) k ls))) in
      sym (collected at (filter (λ k. test (at k)) ls) (filter (has_key n key) (collect at ls)) high)
      ∙ (ap (collect at) (sym same) ∙ collected at (filter (λ k. test (at k)) ks) (filter (has_key n key) (collect at ks)) low)
