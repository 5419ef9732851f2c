-- Parts of a list about a cut, taken out or looked at alone.
use Rattle.std.proofs.Common.{◌≡◌, ℕ, zero, suc, ◌+◌, ◌-◌, ◌<◌, ◌≤◌, Bool, true, false, not, if◌then◌else◌, List, [], ◌∷◌, ◌++◌, length, map, take, drop, filter, slice_index_or, Option, Some, refl, sym, ap, ◌∙◌, arith}
use Rattle.std.specs.Ordering.{is_lt, is_gt, is_eq, ordering_index}
use Rattle.std.specs.declared.cmp.Ordering.{Ordering}
use Rattle.std.specs.declared.cmp.Ordering.TheVariants.{Less, Equal, Greater}
use Rattle.std.specs.List.{AllByRecursion, remove}
use Rattle.std.specs.List.Sorted.{IsStrictlySortedBy}
use Rattle.sorted_map.specs.Cuts.{collect, before, within, behind, outside, IsOrder}
use Rattle.sorted_map.proofs.Sorting.{Rises, parts, no_before, collected}

module _ {X : Type 0} where
  pub remove_front : (xs ys : List X) → remove (xs ++ ys) (length xs) ≡ xs ++ drop 1 ys
  remove_front [] [] = refl
  remove_front [] (y ∷ ys) = refl
  remove_front (x ∷ xs) ys = ap (λ (zs : List X). x ∷ zs) (remove_front xs ys)

  pub at_front : (xs ys : List X) (d : X) → slice_index_or (xs ++ ys) (length xs) d ≡ slice_index_or ys 0 d
  at_front [] ys d = refl
  at_front (x ∷ xs) ys d = at_front xs ys d

  middle : (xs ys zs : List X) → take (length ys) (drop (length xs) (xs ++ (ys ++ zs))) ≡ ys
  middle [] [] zs = refl
  middle [] (y ∷ ys) zs = ap (λ (ws : List X). y ∷ ws) (middle [] ys zs)
  middle (x ∷ xs) ys zs = middle xs ys zs

  next_drop : (n : ℕ) (xs ys : List X) → n < length xs → drop 1 (drop n xs ++ ys) ≡ drop (suc n) xs ++ ys
  next_drop n [] ys lt = absurd (omega (arith, lt))
  next_drop zero (x ∷ xs) ys lt = refl
  next_drop (suc n) (x ∷ xs) ys lt = next_drop n xs ys (omega (arith, lt))

  dropped : (n : ℕ) (xs : List X) → length (drop n xs) ≡ length xs - n
  dropped zero xs = omega arith
  dropped (suc n) [] = omega arith
  dropped (suc n) (x ∷ xs) = omega (arith, dropped n xs)

  -- one more of the middle is taken out
  pub take_next : (n : ℕ) (xs ys zs : List X) → n < length ys → remove (xs ++ (drop n ys ++ zs)) (length xs) ≡ xs ++ (drop (n + 1) ys ++ zs)
  take_next n xs ys zs lt = remove_front xs (drop n ys ++ zs) ∙ (ap (λ (ws : List X). xs ++ ws) (next_drop n ys zs lt) ∙ ap (λ (m : ℕ). xs ++ (drop m ys ++ zs)) (one n)) where
    one : (n : ℕ) → suc n ≡ n + 1
    one n = omega arith

  joined : (xs ys : List X) → length (xs ++ ys) ≡ length xs + length ys
  joined [] ys = omega arith
  joined (x ∷ xs) ys = omega (arith, joined xs ys)

  -- there is one more to take
  pub more_left : (n : ℕ) (xs ys zs ws : List X) → ws ≡ xs ++ (drop n ys ++ zs) → n < length ys → length xs < length ws
  more_left n xs ys zs ws e lt = omega (arith, ap length e, joined xs (drop n ys ++ zs), joined (drop n ys) zs, dropped n ys, lt)

  pub all_taken : (xs ys zs ws : List X) (n : ℕ) → ws ≡ xs ++ (drop n ys ++ zs) → length ys ≤ n → ws ≡ xs ++ zs
  all_taken xs ys zs ws n e le = e ∙ ap (λ (vs : List X). xs ++ (vs ++ zs)) (nil (drop n ys) (omega (arith, dropped n ys, le))) where
    nil : (vs : List X) → length vs ≡ 0 → vs ≡ []
    nil [] e = refl
    nil (v ∷ vs) e = absurd (omega (arith, e))

  module _ (cmp : X → X → Ordering) (side : X → Ordering) (rise : Rises cmp side) where
    -- all but those in the cut
    pub outside_is : (xs : List X) → IsStrictlySortedBy cmp xs → outside side xs ≡ before side xs ++ behind side xs
    unfolding IsStrictlySortedBy
    outside_is [] s = refl
    outside_is (x ∷ xs) s = go (side x) refl (outside_is xs s.1) where
      above : (x : X) (xs : List X) → AllByRecursion (λ y. cmp x y ≡ Less) xs → (n : ℕ) → n ≤ ordering_index (side x) → AllByRecursion (λ y. n ≤ ordering_index (side y)) xs
      above x [] h n le = tt
      above x (y ∷ ys) h n le = (omega (arith, le, rise x y h.0), above x ys h.1 n le)

      go : (o : Ordering) → side x ≡ o → outside side xs ≡ before side xs ++ behind side xs
          → (if not (is_eq o) then x ∷ outside side xs else outside side xs) ≡ (if is_lt o then x ∷ before side xs else before side xs) ++ (if is_gt o then x ∷ behind side xs else behind side xs)
      go Less e h = ap (λ (ys : List X). x ∷ ys) h
      go Equal e h = h
      go Greater e h =
          let none = no_before side xs (above x xs s.0 1 (omega (arith, ap ordering_index e))) in
          ap (λ (ys : List X). x ∷ ys) (h ∙ ap (λ (ys : List X). ys ++ behind side xs) none) ∙ ap (λ (ys : List X). ys ++ x ∷ behind side xs) (sym none)

    -- the keys of a cut
    pub cut_shown : (at : ℕ → Option X) (ks : List ℕ) → IsOrder cmp at ks → (low high : ℕ) → low ≡ length (before side (collect at ks)) → high ≡ low + length (within side (collect at ks))
        → map at (take (high - low) (drop low ks)) ≡ map Some (within side (collect at ks))
    cut_shown at ks o low high e f =
        map_part at ks low (high - low)
        ∙ (ap (λ (os : List (Option X)). take (high - low) (drop low os)) o.shown
        ∙ (sym (map_part Some (collect at ks) low (high - low)) ∙ ap (λ (xs : List X). map Some xs) (part_is (collect at ks) o.sorted low (high - low) e (omega (arith, f))))) where
          map_part : {A B : Type 0} (f : A → B) (xs : List A) (n m : ℕ) → map f (take m (drop n xs)) ≡ take m (drop n (map f xs))
          map_part f [] zero zero = refl
          map_part f [] zero (suc m) = refl
          map_part f [] (suc n) zero = refl
          map_part f [] (suc n) (suc m) = refl
          map_part f (x ∷ xs) (suc n) m = map_part f xs n m
          map_part f (x ∷ xs) zero zero = refl
          map_part {A} {B} f (x ∷ xs) zero (suc m) = ap (λ (ys : List B). f x ∷ ys) (map_part f xs zero m)

          part_is : (xs : List X) → IsStrictlySortedBy cmp xs → (n m : ℕ) → n ≡ length (before side xs) → m ≡ length (within side xs) → take m (drop n xs) ≡ within side xs
          part_is xs s n m e f =
              ap (λ (k : ℕ). take k (drop n xs)) f
              ∙ (ap (λ (k : ℕ). take (length (within side xs)) (drop k xs)) e
              ∙ (ap (λ (ys : List X). take (length (within side xs)) (drop (length (before side xs)) ys)) (parts side cmp rise xs s) ∙ middle (before side xs) (within side xs) (behind side xs)))

    pub cut_collected : (at : ℕ → Option X) (ks : List ℕ) → IsOrder cmp at ks → (low high : ℕ) → low ≡ length (before side (collect at ks)) → high ≡ low + length (within side (collect at ks))
        → collect at (take (high - low) (drop low ks)) ≡ within side (collect at ks)
    cut_collected at ks o low high e f = collected at (take (high - low) (drop low ks)) (within side (collect at ks)) (cut_shown at ks o low high e f)

pub filter_same : {X : Type 0} (p q : X → Bool) → ((x : X) → p x ≡ q x) → (xs : List X) → filter p xs ≡ filter q xs
filter_same p q e [] = refl
filter_same {X} p q e (x ∷ xs) = ap (λ (b : Bool). if b then x ∷ filter p xs else filter p xs) (e x) ∙ go (q x) (filter_same p q e xs) where
  go : (b : Bool) → filter p xs ≡ filter q xs → (if b then x ∷ filter p xs else filter p xs) ≡ (if b then x ∷ filter q xs else filter q xs)
  go true h = ap (λ (ys : List X). x ∷ ys) h
  go false h = h

-- ---- one row

each_none : {X : Type 0} (side : X → Ordering) (xs : List X) → AllByRecursion (λ x. side x ≡ Equal → ⊥) xs → within side xs ≡ []
each_none side [] h = refl
each_none side (x ∷ xs) h = go (side x) h.0 (each_none side xs h.1) where
  go : (o : Ordering) → (o ≡ Equal → ⊥) → within side xs ≡ [] → (if is_eq o then x ∷ within side xs else within side xs) ≡ []
  go Less n e = e
  go Equal n e = absurd (n refl)
  go Greater n e = e

module _ {X : Type 0} (cmp : X → X → Ordering) (side : X → Ordering) (apart : (a b : X) → cmp a b ≡ Less → side a ≡ Equal → side b ≡ Equal → ⊥) where
  -- a cut that no two are in
  pub one_at_most : (xs : List X) → IsStrictlySortedBy cmp xs → length (within side xs) ≤ 1
  unfolding IsStrictlySortedBy
  one_at_most [] s = omega arith
  one_at_most (x ∷ xs) s = go (side x) refl (one_at_most xs s.1) where
    each : side x ≡ Equal → (ys : List X) → AllByRecursion (λ y. cmp x y ≡ Less) ys → AllByRecursion (λ y. side y ≡ Equal → ⊥) ys
    each e [] h = tt
    each e (y ∷ ys) h = (apart x y h.0 e, each e ys h.1)

    go : (o : Ordering) → side x ≡ o → length (within side xs) ≤ 1 → length (if is_eq o then x ∷ within side xs else within side xs) ≤ 1
    go Less e ih = ih
    go Equal e ih = omega (arith, ap length (each_none side xs (each e xs s.0)))
    go Greater e ih = ih

  pub one_taken : (rise : Rises cmp side) (xs : List X) → IsStrictlySortedBy cmp xs → (low : ℕ) → low ≡ length (before side xs) → 0 < length (within side xs) → remove xs low ≡ outside side xs
  one_taken rise xs s low e lt =
      ap (remove xs) e
      ∙ (ap (λ (ys : List X). remove ys (length (before side xs))) (parts side cmp rise xs s)
      ∙ (all_taken (before side xs) (within side xs) (behind side xs) (remove (before side xs ++ (within side xs ++ behind side xs)) (length (before side xs))) (0 + 1) (take_next 0 (before side xs) (within side xs) (behind side xs) lt) (omega (arith, one_at_most xs s))
      ∙ sym (outside_is cmp side rise xs s)))

-- where none is in the cut, all are outside
pub none_taken : {X : Type 0} (cmp : X → X → Ordering) (side : X → Ordering) (rise : Rises cmp side) (xs : List X) → IsStrictlySortedBy cmp xs → length (within side xs) ≡ 0 → xs ≡ outside side xs
none_taken cmp side rise xs s e = all_taken (before side xs) (within side xs) (behind side xs) xs 0 (parts side cmp rise xs s) (omega (arith, e)) ∙ sym (outside_is cmp side rise xs s)

-- the first of the cut stands behind what is before it
pub at_cut : {X : Type 0} (cmp : X → X → Ordering) (side : X → Ordering) (rise : Rises cmp side) (xs : List X) → IsStrictlySortedBy cmp xs → (low : ℕ) → low ≡ length (before side xs) → 0 < length (within side xs) → (x : X) → x ≡ slice_index_or xs low x
    → x ≡ slice_index_or (within side xs) 0 x
at_cut {X} cmp side rise xs s low e lt x is =
    is
    ∙ (ap (λ (n : ℕ). slice_index_or xs n x) e
    ∙ (ap (λ (ys : List X). slice_index_or ys (length (before side xs)) x) (parts side cmp rise xs s)
    ∙ (at_front (before side xs) (within side xs ++ behind side xs) x ∙ front (within side xs) (behind side xs) lt))) where
      front : (ys zs : List X) → 0 < length ys → slice_index_or (ys ++ zs) 0 x ≡ slice_index_or ys 0 x
      front [] zs lt = absurd (omega (arith, lt))
      front (y ∷ ys) zs lt = refl

pub cut_bound : {X : Type 0} (cmp : X → X → Ordering) (side : X → Ordering) (rise : Rises cmp side) (xs : List X) → IsStrictlySortedBy cmp xs → length (before side xs) + length (within side xs) ≤ length xs
cut_bound cmp side rise xs s = omega (arith, ap length (parts side cmp rise xs s), joined (before side xs) (within side xs ++ behind side xs), joined (within side xs) (behind side xs))
