-- What is written at a key's index is a change of what the key stands for.
use Rattle.std.proofs.Common.{◌≡◌, ℕ, List, [], ◌∷◌, Some, refl, sym, ap, ◌∙◌}
use Rattle.std.specs.declared.cmp.Ordering.{Ordering}
use Rattle.sorted_map.specs.Map.{find, index_of, value_at, with_value, changed, seen}
use Rattle.sorted_map.proofs.Showing.{seen_changed}

module _ {K T : Type 0} where
  same : (es : List (K × T)) → seen (λ t. t) es ≡ es
  same [] = refl
  same (e ∷ es) = ap (λ (xs : List (K × T)). e ∷ xs) (same es)

  pub written : (cmp : K → K → Ordering) (key : K) (change : T → T) (es : List (K × T)) (i : ℕ) (old new : T) → i ≡ index_of cmp key es → value_at es i ≡ Some old → value_at es i ≡ find cmp key es → new ≡ change old → with_value es i new ≡ changed cmp key change es
  written cmp key change es i old new is at found to =
      sym (same (with_value es i new)) ∙ (seen_changed (λ t. t) cmp key change es i old new is at found to ∙ ap (changed cmp key change) (same es))
