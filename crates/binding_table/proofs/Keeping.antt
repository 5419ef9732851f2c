-- A table's two orders keep the same keys.
use Rattle.std.proofs.Common.{◌≡◌, ◌≢◌, ℕ, ◌<◌, ◌≤◌, List, [], ◌∷◌, ◌++◌, length, Option, None, Some, slice_index_or, refl, sym, ap, subst, ◌∙◌, arith}
use Rattle.std.proofs.lemmas.Bool.{true≢false}
use Rattle.std.specs.Ordering.{on, is_lt, is_gt, nat_cmp, ordering_then}
use Rattle.std.specs.Cmp.Lexicographic.{slice_cmp}
use Rattle.std.specs.declared.cmp.Ordering.{Ordering}
use Rattle.std.specs.declared.cmp.Ordering.TheVariants.{Less, Equal, Greater}
use Rattle.std.specs.List.{insert, remove}
use Rattle.std.specs.List.Sorted.{IsStrictlySortedBy}
use Rattle.sorted_map.specs.Cuts.{times}
use Rattle.binding_table.specs.declared.order.By.TheVariants as by
use Rattle.binding_table.specs.declared.row.Row.{Row}
use Rattle.binding_table.specs.Spots.{spot, order}
use Rattle.sorted_map.specs.Cuts.{collect, before, within, behind}
use Rattle.binding_table.specs.Rows.{Kept}
use Rattle.binding_table.proofs.Cuts.{row_total}
use Rattle.sorted_map.proofs.Changing.{less_order, less_alike, more_order, key_index, counted, index_is, place_of, found_is, none_at, none_within, times_insert}
use Rattle.sorted_map.proofs.Sorting.{shown_length, shown_at}

none_kept : {A : Type 0} (at : ℕ → Option (Row A)) → Kept at [] []
unfolding IsStrictlySortedBy
none_kept at = record { by_queue = record { shown = refl; sorted = tt }; by_key = record { shown = refl; sorted = tt }; alike = λ k. refl }

-- orders of no keys
pub empty_kept : {A : Type 0} (at : ℕ → Option (Row A)) (ks ls : List ℕ) → ks ≡ [] → ls ≡ [] → Kept at ks ls
empty_kept at ks ls e f = subst (λ (ks : List ℕ). Kept at ks ls) (sym e) (subst (λ (ls : List ℕ). Kept at [] ls) (sym f) (none_kept at))

module _ {A : Type 0} (at : ℕ → Option (Row A)) (ks ls : List ℕ) (kept : Kept at ks ls) where
  -- the index by key of the key at an index by queue
  pub other_index : (i k : ℕ) → i < length ks → k ≡ slice_index_or ks i k → (row : Row A) → at k ≡ Some row → (j : ℕ) → j ≡ length (before (λ r. order by.Key (spot r) (spot row)) (collect at ls)) → (j < length ls) × ((d : ℕ) → slice_index_or ls j d ≡ k)
  other_index i k lt e row found j is =
      let here = index_is ks i k lt e in
      key_index (on spot (order by.Key)) (row_total by.Key) at ls kept.by_key k row found (omega (arith, kept.alike k, counted ks i 0 lt, ap (λ (n : ℕ). times n ks) (here 0))) j is

  -- without that key
  pub less_kept : (new : ℕ → Option (Row A)) (i k j : ℕ) → i < length ks → k ≡ slice_index_or ks i k → (j < length ls) × ((d : ℕ) → slice_index_or ls j d ≡ k) → ((other : ℕ) → other ≢ k → new other ≡ at other)
      → record { rows : collect new (remove ks i) ≡ remove (collect at ks) i; kept : Kept new (remove ks i) (remove ls j) }
  less_kept new i k j lt e there others =
      let here = index_is ks i k lt e in
      let queues = less_order (on spot (order by.Queue)) (row_total by.Queue) at new ks kept.by_queue i k lt here others in
      let keys = less_order (on spot (order by.Key)) (row_total by.Key) at new ls kept.by_key j k there.0 there.1 others in
      record { rows = queues.rows; kept = record { by_queue = queues.order; by_key = keys.order; alike = less_alike ks ls kept.alike i j k lt there.0 here there.1 } }

  -- what isn't there by queue isn't there by key
  pub none_by_key : (row : Row A) → within (λ r. order by.Queue (spot r) (spot row)) (collect at ks) ≡ [] → within (λ r. order by.Key (spot r) (spot row)) (collect at ls) ≡ []
  none_by_key row none = none_within (λ r. order by.Key (spot r) (spot row)) (collect at ls) (λ j d lt e. gone j d lt e) where
    both : (a b c : Ordering) → ordering_then (ordering_then a b) c ≡ Equal → ordering_then (ordering_then a c) b ≡ Equal
    both Less b c e = absurd (true≢false (ap is_lt e))
    both Equal Less c e = absurd (true≢false (ap is_lt e))
    both Equal Equal c e = ap (λ (o : Ordering). ordering_then o Equal) e
    both Equal Greater c e = absurd (true≢false (ap is_gt e))
    both Greater b c e = absurd (true≢false (ap is_gt e))

    gone : (j : ℕ) (d : Row A) → j < length (collect at ls) → order by.Key (spot (slice_index_or (collect at ls) j d)) (spot row) ≡ Equal → ⊥
    gone j d lt e =
        let low : j < length ls = omega (arith, lt, shown_length at ls (collect at ls) kept.by_key.shown) in
        let k = slice_index_or ls j 0 in
        let p = place_of k ks (omega (arith, kept.alike k, counted ls j 0 low)) in
        let found : at k ≡ Some (slice_index_or (collect at ls) j d) = shown_at at ls (collect at ls) kept.by_key.shown j 0 d low in
        let row_is = found_is (on spot (order by.Queue)) at ks kept.by_queue p.0 k p.1 (sym (p.2 k)) (slice_index_or (collect at ls) j d) found in
        let equal = both (nat_cmp (slice_index_or (collect at ls) j d).exchange row.exchange) (slice_cmp nat_cmp (slice_index_or (collect at ls) j d).binding.key row.binding.key) (slice_cmp nat_cmp (slice_index_or (collect at ls) j d).binding.queue row.binding.queue) e in
        none_at (λ r. order by.Queue (spot r) (spot row)) (collect at ks) none p.0 (slice_index_or (collect at ls) j d) (omega (arith, p.1, shown_length at ks (collect at ks) kept.by_queue.shown)) (sym (ap (λ (r : Row A). order by.Queue (spot r) (spot row)) row_is) ∙ equal)

  -- with a key more
  pub more_kept : (new : ℕ → Option (Row A)) (k : ℕ) (row : Row A) → at k ≡ None → new k ≡ Some row → ((other : ℕ) → other ≢ k → new other ≡ at other) → within (λ r. order by.Queue (spot r) (spot row)) (collect at ks) ≡ []
      → (i j : ℕ) → i ≡ length (before (λ r. order by.Queue (spot r) (spot row)) (collect at ks)) → j ≡ length (before (λ r. order by.Key (spot r) (spot row)) (collect at ls)) → i ≤ length ks → j ≤ length ls
      → record { rows : collect new (insert ks i k) ≡ before (λ r. order by.Queue (spot r) (spot row)) (collect at ks) ++ row ∷ behind (λ r. order by.Queue (spot r) (spot row)) (collect at ks); kept : Kept new (insert ks i k) (insert ls j k) }
  more_kept new k row dead here others none i j e f low high =
      let queues = more_order (on spot (order by.Queue)) (row_total by.Queue) at new ks kept.by_queue k row dead here others none i e in
      let keys = more_order (on spot (order by.Key)) (row_total by.Key) at new ls kept.by_key k row dead here others (none_by_key row none) j f in
      record { rows = queues.rows; kept = record { by_queue = queues.order; by_key = keys.order; alike = λ n. omega (arith, kept.alike n, times_insert n k i ks low, times_insert n k j ls high) } }
