-- What a key more or less makes of an order.
use Rattle.std.proofs.Common.{◌≡◌, ◌≢◌, ℕ, zero, suc, ◌+◌, ◌<◌, ◌≤◌, ◌==◌, Bool, true, false, if◌then◌else◌, List, [], ◌∷◌, ◌++◌, ◌⊎◌, inl, inr, length, map, filter, slice_index_or, Option, None, Some, refl, sym, ap, subst, ◌∙◌, arith}
use Rattle.std.proofs.lemmas.Bool.{true≢false, cases_eq}
use Rattle.std.specs.Cmp.{IsTotalOrder}
use Rattle.std.specs.Ordering.{is_lt, is_le, is_gt, is_eq, ordering_index, ordering_reverse}
use Rattle.std.specs.declared.cmp.Ordering.{Ordering}
use Rattle.std.specs.declared.cmp.Ordering.TheVariants.{Less, Equal, Greater}
use Rattle.std.specs.List.{AllByRecursion, insert, remove}
use Rattle.std.specs.List.Sorted.{IsStrictlySortedBy}
use Rattle.sorted_map.specs.Cuts.{times}
use Rattle.sorted_map.specs.Cuts.{collect, before, within, behind, IsOrder}
use Rattle.sorted_map.proofs.Sorting.{parts, no_before, no_later, shown_length, shown_head, shown_tail, collected, shown_at}

-- ---- how often a key stands in a list

abbrev pub as_one : ℕ → ℕ → ℕ
as_one k n = if k == n then 1 else 0

pub times_insert : (n k i : ℕ) (ks : List ℕ) → i ≤ length ks → times n (insert ks i k) ≡ as_one k n + times n ks
times_insert n k zero ks le = refl
times_insert n k (suc i) [] le = absurd (omega (arith, le))
times_insert n k (suc i) (l ∷ ks) le = omega (arith, times_insert n k i ks (omega (arith, le)))

pub times_remove : (n i d : ℕ) (ks : List ℕ) → i < length ks → times n (remove ks i) + as_one (slice_index_or ks i d) n ≡ times n ks
times_remove n i d [] lt = absurd (omega (arith, lt))
times_remove n zero d (l ∷ ks) lt = omega arith
times_remove n (suc i) d (l ∷ ks) lt = omega (arith, times_remove n i d ks (omega (arith, lt)))

pub one_if : (k n : ℕ) → k ≡ n → as_one k n ≡ 1
one_if k n e = grind (arith, e)

pub other_if : (k n : ℕ) → k ≢ n → as_one k n ≡ 0
other_if k n e = grind (arith, e)

none_if : (k n : ℕ) → as_one k n ≡ 0 → k ≢ n
none_if k n e f = omega (arith, e, one_if k n f)

-- where a key stands
pub place_of : (k : ℕ) (ks : List ℕ) → 0 < times k ks → (i : ℕ) × (i < length ks) × ((d : ℕ) → slice_index_or ks i d ≡ k)
place_of k [] lt = absurd (omega (arith, lt))
place_of k (l ∷ ks) lt = go (cases_eq l k) (λ (m : 0 < times k ks). place_of k ks m) where
  go : (l ≡ k) ⊎ (l ≢ k) → (0 < times k ks → (i : ℕ) × (i < length ks) × ((d : ℕ) → slice_index_or ks i d ≡ k)) → (i : ℕ) × (i < length (l ∷ ks)) × ((d : ℕ) → slice_index_or (l ∷ ks) i d ≡ k)
  go (inl e) ih = (0, omega arith, λ d. e)
  go (inr n) ih = let r = ih (omega (arith, lt, other_if l k n)) in (suc r.0, omega (arith, r.1), r.2)

-- a key that stands in a list is counted
pub counted : (ks : List ℕ) (i d : ℕ) → i < length ks → 0 < times (slice_index_or ks i d) ks
counted [] i d lt = absurd (omega (arith, lt))
counted (k ∷ ks) zero d lt = omega (arith, one_if k k refl)
counted (k ∷ ks) (suc i) d lt = omega (arith, counted ks i d (omega (arith, lt)))

module _ {X : Type 0} where
  -- what stands under keys that didn't change
  pub unchanged : (at new : ℕ → Option X) (k : ℕ) → ((other : ℕ) → other ≢ k → new other ≡ at other) → (ks : List ℕ) → times k ks ≡ 0 → map new ks ≡ map at ks
  unchanged at new k others [] e = refl
  unchanged at new k others (l ∷ ks) e = cons (others l (none_if l k (omega (arith, e)))) (unchanged at new k others ks (omega (arith, e))) where
    cons : {a b : Option X} {xs ys : List (Option X)} → a ≡ b → xs ≡ ys → a ∷ xs ≡ b ∷ ys
    cons {a} {b} {xs} {ys} p q = ap (λ (o : Option X). o ∷ xs) p ∙ ap (λ (os : List (Option X)). b ∷ os) q

  some_none : {x : X} {o : Option X} → o ≡ Some x → o ≡ None → ⊥
  some_none p q = true≢false (ap (λ (o : Option X). elim o [ None ↦ false | Some y ↦ true ]) (sym p ∙ q))

  pub dead_absent : (at : ℕ → Option X) (k : ℕ) → at k ≡ None → (ks : List ℕ) (xs : List X) → map at ks ≡ map Some xs → times k ks ≡ 0
  dead_absent at k dead [] xs e = refl
  dead_absent at k dead (l ∷ ks) [] e = absurd (omega (arith, ap length e))
  dead_absent at k dead (l ∷ ks) (x ∷ xs) e = go (cases_eq l k) (dead_absent at k dead ks xs (shown_tail at l ks x xs e)) where
    go : (l ≡ k) ⊎ (l ≢ k) → times k ks ≡ 0 → times k (l ∷ ks) ≡ 0
    go (inl f) ih = absurd (some_none (shown_head at l ks x xs e) (ap at f ∙ dead))
    go (inr n) ih = omega (arith, ih, other_if l k n)

-- ---- a sorted list

module _ {X : Type 0} (cmp : X → X → Ordering) (total : IsTotalOrder cmp) where
  turned : (a b : X) (o : Ordering) → cmp a b ≡ o → cmp b a ≡ ordering_reverse o
  turned a b o e = total.antisymm b a ∙ ap ordering_reverse e

  pub same_equal : (a : X) → cmp a a ≡ Equal
  same_equal a = go (cmp a a) refl where
    go : (o : Ordering) → cmp a a ≡ o → o ≡ Equal
    go Less e = absurd (true≢false (ap is_lt (sym e ∙ turned a a Less e)))
    go Equal e = refl
    go Greater e = absurd (true≢false (ap is_gt (sym e ∙ turned a a Greater e)))

  -- what comes before one that comes no later than another comes before that
  pub behind_equal : (a b t : X) → cmp a b ≡ Less → cmp a t ≡ Equal → cmp b t ≡ Greater
  behind_equal a b t lt e = turned t b Less (total.congr t a b (turned a t Equal e) ∙ lt)

  each_behind : (a b : X) → cmp a b ≡ Less → (xs : List X) → AllByRecursion (λ y. cmp b y ≡ Less) xs → AllByRecursion (λ y. cmp a y ≡ Less) xs
  each_behind a b lt [] h = tt
  each_behind a b lt (x ∷ xs) h = (total.trans a b x lt h.0, each_behind a b lt xs h.1)

  pub sorted_remove : (xs : List X) (i : ℕ) → IsStrictlySortedBy cmp xs → IsStrictlySortedBy cmp (remove xs i)
  unfolding IsStrictlySortedBy
  sorted_remove [] zero s = tt
  sorted_remove [] (suc i) s = tt
  sorted_remove (x ∷ xs) zero s = s.1
  sorted_remove (x ∷ xs) (suc i) s = (each_remove (λ y. cmp x y ≡ Less) xs i s.0, sorted_remove xs i s.1) where
    each_remove : (P : X → Type 0) (xs : List X) (i : ℕ) → AllByRecursion P xs → AllByRecursion P (remove xs i)
    each_remove P [] zero h = tt
    each_remove P [] (suc i) h = tt
    each_remove P (x ∷ xs) zero h = h.1
    each_remove P (x ∷ xs) (suc i) h = (h.0, each_remove P xs i h.1)

  -- a key stands once under a sorted list
  pub stands_once : (at : ℕ → Option X) (k : ℕ) (ks : List ℕ) (xs : List X) → map at ks ≡ map Some xs → IsStrictlySortedBy cmp xs → times k ks ≤ 1
  unfolding IsStrictlySortedBy
  stands_once at k [] xs e s = omega arith
  stands_once at k (l ∷ ks) [] e s = absurd (omega (arith, ap length e))
  stands_once at k (l ∷ ks) (x ∷ xs) e s = go (cases_eq l k) (stands_once at k ks xs (shown_tail at l ks x xs e) s.1) where
    some_is : {a b : X} → ◌≡◌ {A = Option X} (Some a) (Some b) → a ≡ b
    some_is {a} {b} p = ap (λ (o : Option X). elim o [ None ↦ a | Some y ↦ y ]) p

    none_later : at k ≡ Some x → (ls : List ℕ) (ys : List X) → map at ls ≡ map Some ys → AllByRecursion (λ y. cmp x y ≡ Less) ys → times k ls ≡ 0
    none_later f [] ys e h = refl
    none_later f (m ∷ ls) [] e h = absurd (omega (arith, ap length e))
    none_later f (m ∷ ls) (y ∷ ys) e h = here (cases_eq m k) (none_later f ls ys (shown_tail at m ls y ys e) h.1) where
      here : (m ≡ k) ⊎ (m ≢ k) → times k ls ≡ 0 → times k (m ∷ ls) ≡ 0
      here (inl g) ih = absurd (true≢false (ap is_lt (sym h.0 ∙ (ap (cmp x) (some_is (sym (shown_head at m ls y ys e) ∙ (ap at g ∙ f))) ∙ same_equal x))))
      here (inr n) ih = omega (arith, ih, other_if m k n)

    go : (l ≡ k) ⊎ (l ≢ k) → times k ks ≤ 1 → times k (l ∷ ks) ≤ 1
    go (inl f) ih = omega (arith, one_if l k f, none_later (ap at (sym f) ∙ shown_head at l ks x xs e) ks xs (shown_tail at l ks x xs e) s.0)
    go (inr n) ih = omega (arith, ih, other_if l k n)

  pub all_at : (P : X → Type 0) (xs : List X) → AllByRecursion P xs → (i : ℕ) (d : X) → i < length xs → P (slice_index_or xs i d)
  all_at P [] h i d lt = absurd (omega (arith, lt))
  all_at P (x ∷ xs) h zero d lt = h.0
  all_at P (x ∷ xs) h (suc i) d lt = all_at P xs h.1 i d (omega (arith, lt))

  -- so many come before the element at an index
  pub place_before : (r : X) (xs : List X) → IsStrictlySortedBy cmp xs → (i : ℕ) → i < length xs → ((d : X) → slice_index_or xs i d ≡ r) → length (before (λ y. cmp y r) xs) ≡ i
  unfolding IsStrictlySortedBy
  place_before r [] s i lt here = absurd (omega (arith, lt))
  place_before r (x ∷ xs) s zero lt here = go (cmp x r) (ap (λ (y : X). cmp y r) (here x) ∙ same_equal r) (no_before (λ y. cmp y r) xs (greater xs s.0)) where
    greater : (ys : List X) → AllByRecursion (λ y. cmp x y ≡ Less) ys → AllByRecursion (λ y. 1 ≤ ordering_index (cmp y r)) ys
    greater [] h = tt
    greater (y ∷ ys) h = (omega (arith, ap ordering_index (behind_equal x y r h.0 (ap (λ (z : X). cmp z r) (here x) ∙ same_equal r))), greater ys h.1)

    go : (o : Ordering) → o ≡ Equal → before (λ y. cmp y r) xs ≡ [] → length (if is_lt o then x ∷ before (λ y. cmp y r) xs else before (λ y. cmp y r) xs) ≡ 0
    go o e n = ap (λ (o : Ordering). length (if is_lt o then x ∷ before (λ y. cmp y r) xs else before (λ y. cmp y r) xs)) e ∙ ap length n
  place_before r (x ∷ xs) s (suc i) lt here = go (cmp x r) (ap (cmp x) (sym (here x)) ∙ all_at (λ y. cmp x y ≡ Less) xs s.0 i x (omega (arith, lt))) (place_before r xs s.1 i (omega (arith, lt)) here) where
    go : (o : Ordering) → o ≡ Less → length (before (λ y. cmp y r) xs) ≡ i → length (if is_lt o then x ∷ before (λ y. cmp y r) xs else before (λ y. cmp y r) xs) ≡ suc i
    go o e n = ap (λ (o : Ordering). length (if is_lt o then x ∷ before (λ y. cmp y r) xs else before (λ y. cmp y r) xs)) e ∙ ap suc n

  -- the index of a key, by what stands under it
  pub key_index : (at : ℕ → Option X) (ls : List ℕ) → IsOrder cmp at ls → (k : ℕ) (r : X) → at k ≡ Some r → 0 < times k ls → (i : ℕ) → i ≡ length (before (λ y. cmp y r) (collect at ls)) → (i < length ls) × ((d : ℕ) → slice_index_or ls i d ≡ k)
  key_index at ls o k r found there i e =
      let p = place_of k ls there in
      let is : (d : X) → slice_index_or (collect at ls) p.0 d ≡ r = λ d. some_is (sym (shown_at at ls (collect at ls) o.shown p.0 k d p.1) ∙ (ap at (p.2 k) ∙ found)) in
      let same = place_before r (collect at ls) o.sorted p.0 (omega (arith, p.1, shown_length at ls (collect at ls) o.shown)) is in
      subst (λ (i : ℕ). (i < length ls) × ((d : ℕ) → slice_index_or ls i d ≡ k)) (sym (e ∙ same)) (p.1, p.2) where
        some_is : {a b : X} → ◌≡◌ {A = Option X} (Some a) (Some b) → a ≡ b
        some_is {a} {b} p = ap (λ (o : Option X). elim o [ None ↦ a | Some y ↦ y ]) p

  -- ---- putting in

  pub all_filter : (p : X → Bool) (P : X → Type 0) → ((x : X) → p x ≡ true → P x) → (xs : List X) → AllByRecursion P (filter p xs)
  all_filter p P f [] = tt
  all_filter p P f (x ∷ xs) = go (p x) refl (all_filter p P f xs) where
    go : (b : Bool) → p x ≡ b → AllByRecursion P (filter p xs) → AllByRecursion P (if b then x ∷ filter p xs else filter p xs)
    go true e h = (f x e, h)
    go false e h = h

  pub kept_filter : (p : X → Bool) (P : X → Type 0) (xs : List X) → AllByRecursion P xs → AllByRecursion P (filter p xs)
  kept_filter p P [] h = tt
  kept_filter p P (x ∷ xs) h = go (p x) (kept_filter p P xs h.1) where
    go : (b : Bool) → AllByRecursion P (filter p xs) → AllByRecursion P (if b then x ∷ filter p xs else filter p xs)
    go true g = (h.0, g)
    go false g = g

  pub sorted_filter : (p : X → Bool) (xs : List X) → IsStrictlySortedBy cmp xs → IsStrictlySortedBy cmp (filter p xs)
  unfolding IsStrictlySortedBy
  sorted_filter p [] s = tt
  sorted_filter p (x ∷ xs) s = go (p x) (kept_filter p (λ y. cmp x y ≡ Less) xs s.0) (sorted_filter p xs s.1) where
    go : (b : Bool) → AllByRecursion (λ y. cmp x y ≡ Less) (filter p xs) → IsStrictlySortedBy cmp (filter p xs) → IsStrictlySortedBy cmp (if b then x ∷ filter p xs else filter p xs)
    go true h g = (h, g)
    go false h g = g

  join : (r : X) (xs ys : List X) → IsStrictlySortedBy cmp xs → AllByRecursion (λ x. cmp x r ≡ Less) xs → IsStrictlySortedBy cmp ys → AllByRecursion (λ y. cmp r y ≡ Less) ys → IsStrictlySortedBy cmp (xs ++ r ∷ ys)
  unfolding IsStrictlySortedBy
  join r [] ys s f t g = (g, t)
  join r (x ∷ xs) ys s f t g = (all_join (λ y. cmp x y ≡ Less) xs s.0 (f.0, each_behind x r f.0 ys g), join r xs ys s.1 f.1 t g) where
    all_join : (P : X → Type 0) (zs : List X) → AllByRecursion P zs → AllByRecursion P (r ∷ ys) → AllByRecursion P (zs ++ r ∷ ys)
    all_join P [] h k = k
    all_join P (z ∷ zs) h k = (h.0, all_join P zs h.1 k)

  is_less : (o : Ordering) → is_lt o ≡ true → o ≡ Less
  is_less Less e = refl
  is_less Equal e = absurd (true≢false (sym e))
  is_less Greater e = absurd (true≢false (sym e))

  is_greater : (o : Ordering) → is_gt o ≡ true → o ≡ Greater
  is_greater Less e = absurd (true≢false (sym e))
  is_greater Equal e = absurd (true≢false (sym e))
  is_greater Greater e = refl

  pub sorted_put : (r : X) (xs : List X) → IsStrictlySortedBy cmp xs → IsStrictlySortedBy cmp (before (λ y. cmp y r) xs ++ r ∷ behind (λ y. cmp y r) xs)
  sorted_put r xs s =
      join r (before (λ y. cmp y r) xs) (behind (λ y. cmp y r) xs) (sorted_filter (λ y. is_lt (cmp y r)) xs s) (all_filter (λ y. is_lt (cmp y r)) (λ y. cmp y r ≡ Less) (λ y e. is_less (cmp y r) e) xs)
      (sorted_filter (λ y. is_gt (cmp y r)) xs s) (all_filter (λ y. is_gt (cmp y r)) (λ y. cmp r y ≡ Less) (λ y e. turned y r Greater (is_greater (cmp y r) e)) xs)

-- a key less
module _ {X : Type 0} (cmp : X → X → Ordering) (total : IsTotalOrder cmp) (at new : ℕ → Option X) (ks : List ℕ) (o : IsOrder cmp at ks) where
  pub less_shown : (i k : ℕ) → i < length ks → ((d : ℕ) → slice_index_or ks i d ≡ k) → ((other : ℕ) → other ≢ k → new other ≡ at other) → map new (remove ks i) ≡ map Some (remove (collect at ks) i)
  less_shown i k lt here others =
      unchanged at new k others (remove ks i) (omega (arith, times_remove k i k ks lt, one_if (slice_index_or ks i k) k (here k), stands_once cmp total at k ks (collect at ks) o.shown o.sorted))
      ∙ (map_remove at ks i ∙ (ap (λ (os : List (Option X)). remove os i) o.shown ∙ sym (map_remove Some (collect at ks) i))) where
        map_remove : {A B : Type 0} (f : A → B) (xs : List A) (i : ℕ) → map f (remove xs i) ≡ remove (map f xs) i
        map_remove f [] zero = refl
        map_remove f [] (suc i) = refl
        map_remove f (x ∷ xs) zero = refl
        map_remove {A} {B} f (x ∷ xs) (suc i) = ap (λ (ys : List B). f x ∷ ys) (map_remove f xs i)

  pub less_order : (i k : ℕ) → i < length ks → ((d : ℕ) → slice_index_or ks i d ≡ k) → ((other : ℕ) → other ≢ k → new other ≡ at other) → record { rows : collect new (remove ks i) ≡ remove (collect at ks) i; order : IsOrder cmp new (remove ks i) }
  less_order i k lt here others =
      let shown = less_shown i k lt here others in
      let rows = collected new (remove ks i) (remove (collect at ks) i) shown in
      record {
        rows = rows;
        order = record { shown = shown ∙ ap (λ (xs : List X). map Some xs) (sym rows); sorted = subst (IsStrictlySortedBy cmp) (sym rows) (sorted_remove cmp total (collect at ks) i o.sorted) };
      }

pub any_default : {X : Type 0} (xs : List X) (i : ℕ) (d e : X) → i < length xs → slice_index_or xs i d ≡ slice_index_or xs i e
any_default [] i d e lt = absurd (omega (arith, lt))
any_default (x ∷ xs) zero d e lt = refl
any_default (x ∷ xs) (suc i) d e lt = any_default xs i d e (omega (arith, lt))

pub index_is : (ks : List ℕ) (i k : ℕ) → i < length ks → k ≡ slice_index_or ks i k → (d : ℕ) → slice_index_or ks i d ≡ k
index_is ks i k lt e d = any_default ks i d k lt ∙ sym e

-- what stands under the key at an index
pub under_index : {X : Type 0} (cmp : X → X → Ordering) (at : ℕ → Option X) (ks : List ℕ) → IsOrder cmp at ks → (i k : ℕ) → i < length ks → k ≡ slice_index_or ks i k → (d : X) → at k ≡ Some (slice_index_or (collect at ks) i d)
under_index cmp at ks o i k lt e d = ap at e ∙ shown_at at ks (collect at ks) o.shown i k d lt

-- under the key at an index something stands
pub not_none : {X : Type 0} (cmp : X → X → Ordering) (at : ℕ → Option X) (ks : List ℕ) → IsOrder cmp at ks → (i k : ℕ) → i < length ks → k ≡ slice_index_or ks i k → at k ≡ None → ⊥
not_none {X} cmp at ks o i k lt e gone = go (collect at ks) (omega (arith, lt, shown_length at ks (collect at ks) o.shown)) (under_index cmp at ks o i k lt e) where
  go : (xs : List X) → i < length xs → ((d : X) → at k ≡ Some (slice_index_or xs i d)) → ⊥
  go [] lt f = omega (arith, lt)
  go (x ∷ xs) lt f = true≢false (ap (λ (o : Option X). elim o [ None ↦ false | Some y ↦ true ]) (sym (f x) ∙ gone))

pub found_is : {X : Type 0} (cmp : X → X → Ordering) (at : ℕ → Option X) (ks : List ℕ) → IsOrder cmp at ks → (i k : ℕ) → i < length ks → k ≡ slice_index_or ks i k → (x : X) → at k ≡ Some x → x ≡ slice_index_or (collect at ks) i x
found_is {X} cmp at ks o i k lt e x found = ap (λ (o : Option X). elim o [ None ↦ x | Some y ↦ y ]) (sym found ∙ under_index cmp at ks o i k lt e x)

-- two lists with the same keys still have the same
pub less_alike : (ks ls : List ℕ) → ((n : ℕ) → times n ks ≡ times n ls) → (i j k : ℕ) → i < length ks → j < length ls → ((d : ℕ) → slice_index_or ks i d ≡ k) → ((d : ℕ) → slice_index_or ls j d ≡ k) → (n : ℕ) → times n (remove ks i) ≡ times n (remove ls j)
less_alike ks ls alike i j k low high here there n = omega (arith, alike n, times_remove n i k ks low, times_remove n j k ls high, ap (λ (m : ℕ). as_one m n) (here k), ap (λ (m : ℕ). as_one m n) (there k))

-- ---- a key more

module _ {X : Type 0} (side : X → Ordering) where
  pub none_at : (xs : List X) → within side xs ≡ [] → (i : ℕ) (d : X) → i < length xs → side (slice_index_or xs i d) ≡ Equal → ⊥
  none_at [] n i d lt e = omega (arith, lt)
  none_at (x ∷ xs) n i d lt e = at_index i lt e (head_not (side x) n) (λ (j : ℕ) (m : j < length xs) (f : side (slice_index_or xs j d) ≡ Equal). none_at xs (tail_none (side x) n) j d m f) where
    head_not : (o : Ordering) → (if is_eq o then x ∷ within side xs else within side xs) ≡ [] → o ≡ Equal → ⊥
    head_not o n f = omega (arith, ap length (sym (ap (λ (o : Ordering). if is_eq o then x ∷ within side xs else within side xs) f) ∙ n))

    tail_none : (o : Ordering) → (if is_eq o then x ∷ within side xs else within side xs) ≡ [] → within side xs ≡ []
    tail_none Less n = n
    tail_none Equal n = absurd (omega (arith, ap length n))
    tail_none Greater n = n

    at_index : (i : ℕ) → i < length (x ∷ xs) → side (slice_index_or (x ∷ xs) i d) ≡ Equal → (side x ≡ Equal → ⊥) → ((j : ℕ) → j < length xs → side (slice_index_or xs j d) ≡ Equal → ⊥) → ⊥
    at_index zero lt e h t = h e
    at_index (suc j) lt e h t = t j (omega (arith, lt)) e

  pub none_within : (xs : List X) → ((i : ℕ) (d : X) → i < length xs → side (slice_index_or xs i d) ≡ Equal → ⊥) → within side xs ≡ []
  none_within [] f = refl
  none_within (x ∷ xs) f = go (side x) (f 0 x (omega arith)) (none_within xs (λ i d lt. f (suc i) d (omega (arith, lt)))) where
    go : (o : Ordering) → (o ≡ Equal → ⊥) → within side xs ≡ [] → (if is_eq o then x ∷ within side xs else within side xs) ≡ []
    go Less n e = e
    go Equal n e = absurd (n refl)
    go Greater n e = e

insert_front : {X : Type 0} (r : X) (xs ys : List X) → insert (xs ++ ys) (length xs) r ≡ xs ++ r ∷ ys
insert_front r [] ys = refl
insert_front {X} r (x ∷ xs) ys = ap (λ (zs : List X). x ∷ zs) (insert_front r xs ys)

map_insert : {A B : Type 0} (f : A → B) (xs : List A) (i : ℕ) (x : A) → map f (insert xs i x) ≡ insert (map f xs) i (f x)
map_insert f xs zero x = refl
map_insert f [] (suc i) x = refl
map_insert {A} {B} f (y ∷ xs) (suc i) x = ap (λ (zs : List B). f y ∷ zs) (map_insert f xs i x)

module _ {X : Type 0} (cmp : X → X → Ordering) (total : IsTotalOrder cmp) (at new : ℕ → Option X) (ks : List ℕ) (o : IsOrder cmp at ks) where
  pub more_order : (k : ℕ) (r : X) → at k ≡ None → new k ≡ Some r → ((other : ℕ) → other ≢ k → new other ≡ at other) → within (λ y. cmp y r) (collect at ks) ≡ [] → (i : ℕ) → i ≡ length (before (λ y. cmp y r) (collect at ks))
      → record { rows : collect new (insert ks i k) ≡ before (λ y. cmp y r) (collect at ks) ++ r ∷ behind (λ y. cmp y r) (collect at ks); order : IsOrder cmp new (insert ks i k) }
  more_order k r dead here others none i e =
      let two : collect at ks ≡ before (λ y. cmp y r) (collect at ks) ++ behind (λ y. cmp y r) (collect at ks) =
      parts (λ y. cmp y r) cmp (λ a b lt. no_later cmp total r a b (ap is_le lt)) (collect at ks) o.sorted ∙ ap (λ (xs : List X). before (λ y. cmp y r) (collect at ks) ++ (xs ++ behind (λ y. cmp y r) (collect at ks))) none in
      let placed : insert (collect at ks) i r ≡ before (λ y. cmp y r) (collect at ks) ++ r ∷ behind (λ y. cmp y r) (collect at ks) =
      ap (λ (n : ℕ). insert (collect at ks) n r) e ∙ (ap (λ (xs : List X). insert xs (length (before (λ y. cmp y r) (collect at ks))) r) two ∙ insert_front r (before (λ y. cmp y r) (collect at ks)) (behind (λ y. cmp y r) (collect at ks))) in
      let shown : map new (insert ks i k) ≡ map Some (before (λ y. cmp y r) (collect at ks) ++ r ∷ behind (λ y. cmp y r) (collect at ks)) =
      map_insert new ks i k
      ∙ (ap (λ (os : List (Option X)). insert os i (new k)) (unchanged at new k others ks (dead_absent at k dead ks (collect at ks) o.shown) ∙ o.shown)
      ∙ (ap (insert (map Some (collect at ks)) i) here ∙ (sym (map_insert Some (collect at ks) i r) ∙ ap (λ (xs : List X). map Some xs) placed))) in
      let rows = collected new (insert ks i k) (before (λ y. cmp y r) (collect at ks) ++ r ∷ behind (λ y. cmp y r) (collect at ks)) shown in
      record {
        rows = rows;
        order = record { shown = shown ∙ ap (λ (xs : List X). map Some xs) (sym rows); sorted = subst (IsStrictlySortedBy cmp) (sym rows) (sorted_put cmp total r (collect at ks) o.sorted) };
      }

filter_fits : {X : Type 0} (p : X → Bool) (xs : List X) → length (filter p xs) ≤ length xs
filter_fits p [] = omega arith
filter_fits p (x ∷ xs) = go (p x) (filter_fits p xs) where
  go : (b : Bool) → length (filter p xs) ≤ length xs → length (if b then x ∷ filter p xs else filter p xs) ≤ suc (length xs)
  go true le = omega (arith, le)
  go false le = omega (arith, le)

-- a point is within its list
pub point_fits : {X : Type 0} (cmp : X → X → Ordering) (at : ℕ → Option X) (ks : List ℕ) → IsOrder cmp at ks → (p : X → Bool) (i : ℕ) → i ≡ length (filter p (collect at ks)) → i ≤ length ks
point_fits cmp at ks o p i e = omega (arith, e, filter_fits p (collect at ks), shown_length at ks (collect at ks) o.shown)

-- an element goes in between what is before it and what is behind
pub insert_cut : {X : Type 0} (cmp : X → X → Ordering) → IsTotalOrder cmp → (r : X) (xs : List X) → IsStrictlySortedBy cmp xs → within (λ y. cmp y r) xs ≡ [] → (i : ℕ) → i ≡ length (before (λ y. cmp y r) xs) → insert xs i r ≡ before (λ y. cmp y r) xs ++ r ∷ behind (λ y. cmp y r) xs
insert_cut {X} cmp total r xs s none i e =
    ap (λ (n : ℕ). insert xs n r) e
    ∙ (ap (λ (ys : List X). insert ys (length (before (λ y. cmp y r) xs)) r) (parts (λ y. cmp y r) cmp (λ a b lt. no_later cmp total r a b (ap is_le lt)) xs s ∙ ap (λ (ys : List X). before (λ y. cmp y r) xs ++ (ys ++ behind (λ y. cmp y r) xs)) none)
    ∙ insert_front r (before (λ y. cmp y r) xs) (behind (λ y. cmp y r) xs))
