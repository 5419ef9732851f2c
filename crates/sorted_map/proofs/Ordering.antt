-- A sorted list parts about each key.
use Rattle.std.proofs.Common.{◌≡◌, ℕ, ◌<◌, ◌≤◌, ◌+◌, Bool, true, false, List, [], ◌∷◌, ◌⊎◌, inl, inr, length, slice_index_or, Option, None, Some, refl, sym, ap, ◌∙◌, arith}
use Rattle.std.proofs.lemmas.Bool.{true≢false, cases_lt}
use Rattle.std.proofs.lemmas.Map.Keys.{Less-from_sorted}
use Rattle.std.specs.Cmp.{IsTotalOrder, on_total}
use Rattle.std.specs.Ordering.{is_lt, is_le, is_eq, ordering_index}
use Rattle.std.specs.declared.cmp.Ordering.{Ordering}
use Rattle.std.specs.declared.cmp.Ordering.TheVariants.{Less, Equal, Greater}
use Rattle.std.specs.List.Sorted.{IsStrictlySortedBy, IsPartitionedBy, IsPartitionPoint}
use Rattle.sorted_map.specs.Cuts.{before, within}
use Rattle.sorted_map.specs.Map.{by_key, from_key, find}
use Rattle.sorted_map.proofs.Sorting.{Rises, no_later, point_is, upto}
use Rattle.sorted_map.proofs.Changing.{behind_equal}

lt_down : (a b : Ordering) → ordering_index a ≤ ordering_index b → is_lt b ≡ true → is_lt a ≡ true
lt_down Less b le q = refl
lt_down Equal Less le q = absurd (omega (arith, le))
lt_down Equal Equal le q = q
lt_down Equal Greater le q = q
lt_down Greater Less le q = absurd (omega (arith, le))
lt_down Greater Equal le q = q
lt_down Greater Greater le q = q

le_down : (a b : Ordering) → ordering_index a ≤ ordering_index b → is_le b ≡ true → is_le a ≡ true
le_down Less b le q = refl
le_down Equal b le q = refl
le_down Greater Less le q = absurd (omega (arith, le))
le_down Greater Equal le q = absurd (omega (arith, le))
le_down Greater Greater le q = q

module _ {K T : Type 0} (cmp : K → K → Ordering) where
  pub none_sorted : (es : List (K × T)) → es ≡ [] → IsStrictlySortedBy (by_key cmp) es
  unfolding IsStrictlySortedBy
  none_sorted [] e = tt
  none_sorted (x ∷ xs) e = absurd (omega (arith, ap length e))

  -- the first of those with a key is what it stands for
  pub found_first : (key : K) (es : List (K × T)) (e : K × T) → 0 < length (within (from_key cmp key) es) → e ≡ slice_index_or (within (from_key cmp key) es) 0 e → Some e.1 ≡ find cmp key es
  found_first key es e lt is = go (within (from_key cmp key) es) lt is where
    go : (ws : List (K × T)) → 0 < length ws → e ≡ slice_index_or ws 0 e → Some e.1 ≡ (elim ws [ [] ↦ None | w ∷ more ↦ Some w.1 ])
    go [] lt is = absurd (omega (arith, lt))
    go (w ∷ ws) lt is = ap (λ (x : K × T). Some x.1) is

  -- a key that stands for nothing is nowhere
  pub none_there : (key : K) (es : List (K × T)) → find cmp key es ≡ None → within (from_key cmp key) es ≡ []
  none_there key es e = go (within (from_key cmp key) es) e where
    go : (ws : List (K × T)) → ◌≡◌ {A = Option T} (elim ws [ [] ↦ None | w ∷ more ↦ Some w.1 ]) None → ws ≡ []
    go [] f = refl
    go (w ∷ ws) f = absurd (true≢false (ap (λ (o : Option T). elim o [ None ↦ false | Some x ↦ true ]) f))

  module _ (total : IsTotalOrder cmp) where
    pub entry_total : IsTotalOrder (by_key {T = T} cmp)
    entry_total = on_total (λ (e : K × T). e.0) total

    pub rises : (key : K) → Rises (by_key {T = T} cmp) (from_key cmp key)
    rises key a b lt = no_later cmp total key a.0 b.0 (ap is_le lt)

    -- no two entries have one key
    pub apart : (key : K) (a b : K × T) → by_key cmp a b ≡ Less → from_key cmp key a ≡ Equal → from_key cmp key b ≡ Equal → ⊥
    apart key a b lt e f = true≢false (ap is_eq (sym f ∙ behind_equal cmp total a.0 b.0 key lt e))

    falls : (key : K) (p : Ordering → Bool) → ((a b : Ordering) → ordering_index a ≤ ordering_index b → p b ≡ true → p a ≡ true) → (es : List (K × T)) → IsStrictlySortedBy (by_key cmp) es → IsPartitionedBy (λ e. p (from_key cmp key e)) es
    falls key p down es s i j d le lt q = go (cases_lt i j) where
      go : (i < j) ⊎ (j ≤ i) → p (from_key cmp key (slice_index_or es i d)) ≡ true
      go (inl less) = down (from_key cmp key (slice_index_or es i d)) (from_key cmp key (slice_index_or es j d)) (rises key (slice_index_or es i d) (slice_index_or es j d) (Less-from_sorted (by_key cmp) es i j d s less lt)) q
      go (inr more) = ap (λ (n : ℕ). p (from_key cmp key (slice_index_or es n d))) (same i j (omega (arith, le, more))) ∙ q where
        same : (a b : ℕ) → a ≡ b → a ≡ b
        same a b e = e

    pub low_is : (key : K) (es : List (K × T)) → IsStrictlySortedBy (by_key cmp) es → (i : ℕ) → i ≤ length es → (IsPartitionedBy (λ e. is_lt (from_key cmp key e)) es → IsPartitionPoint (λ e. is_lt (from_key cmp key e) ≡ true) (λ e. is_lt (from_key cmp key e) ≡ false) es i) → i ≡ length (before (from_key cmp key) es)
    low_is key es s i le point = point_is (λ e. is_lt (from_key cmp key e)) es i le (point (falls key is_lt lt_down es s))

    pub high_is : (key : K) (es : List (K × T)) → IsStrictlySortedBy (by_key cmp) es → (i : ℕ) → i ≤ length es → (IsPartitionedBy (λ e. is_le (from_key cmp key e)) es → IsPartitionPoint (λ e. is_le (from_key cmp key e) ≡ true) (λ e. is_le (from_key cmp key e) ≡ false) es i) → i ≡ length (before (from_key cmp key) es) + length (within (from_key cmp key) es)
    high_is key es s i le point = point_is (λ e. is_le (from_key cmp key e)) es i le (point (falls key is_le le_down es s)) ∙ upto (from_key cmp key) es
