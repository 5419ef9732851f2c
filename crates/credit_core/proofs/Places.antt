-- The first place of a destination, and what a change, a removal and a move make of the list around it.
use Rattle.std.proofs.Common.{◌≡◌, ℕ, zero, suc, ◌+◌, ◌<◌, ◌≤◌, Bool, true, false, not, List, [], ◌∷◌, ◌++◌, length, Option, Some, None, refl, sym, ap, ◌∙◌, arith, ◌||◌, slice_index_or, slice_set, nat_lt, if◌then◌else◌}
use Rattle.std.specs.List.{list_any, find, position, position_or_len, remove}
use Rattle.std.proofs.lemmas.Bool.{ltb-true, ltb-false}
use Rattle.std.proofs.lemmas.Option.{none-some}
use Rattle.credit_core.specs.declared.sub.SubState.{SubState}
use Rattle.credit_core.specs.Turns.{is_for, changed, removed, moved, at_place}

-- ---- where the search ends

-- the place of the first that passes a test, or the length
abbrev pub place : (SubState → Bool) → List SubState → ℕ
place test [] = 0
place test (x ∷ xs) = if test x then 0 else suc (place test xs)

-- a step of the search, by the test of the first
abbrev step : Bool → ℕ → ℕ
step b n = if b then 0 else suc n

place_go : (b : Bool) (n m : ℕ) → n ≡ m → (if not b then 1 + n else 0) ≡ step b m
place_go true n m e = refl
place_go false n m e = omega (arith, e)

place_is : (test : SubState → Bool) (xs : List SubState) → position_or_len test xs ≡ place test xs
place_is test [] = refl
place_is test (x ∷ xs) = place_go (test x) (position_or_len test xs) (place test xs) (place_is test xs)

abbrev number_in : Option ℕ → ℕ
number_in None = 0
number_in (Some n) = n

-- the first place that passes a test
pub record IsFirst (test : SubState → Bool) (xs : List SubState) (i : ℕ) : Type 0 where
  pub there : place test xs < length xs
  pub is : place test xs ≡ i

first_by : (b : Bool) (k i : ℕ) → (if b then Some k else None) ≡ Some i → (b ≡ true) × (k ≡ i)
first_by true k i e = (refl, ap number_in e)
first_by false k i e = absurd (none-some i e)

pub found : (test : SubState → Bool) (xs : List SubState) (i : ℕ) → position test xs ≡ Some i → IsFirst test xs i
found test xs i e =
    let h = first_by (nat_lt (position_or_len test xs) (length xs)) (position_or_len test xs) i e in
    record { there = omega (arith, place_is test xs, ltb-true (position_or_len test xs) (length xs) h.0); is = sym (place_is test xs) ∙ h.1 }

none_by : (b : Bool) (k : ℕ) → (if b then Some k else None) ≡ None → b ≡ false
none_by true k e = absurd (none-some k (sym e))
none_by false k e = refl

pub missing : (test : SubState → Bool) (xs : List SubState) → position test xs ≡ None → length xs ≤ place test xs
missing test xs e = omega (arith, place_is test xs, ltb-false (position_or_len test xs) (length xs) (none_by (nat_lt (position_or_len test xs) (length xs)) (position_or_len test xs) e))

-- ---- what stands there

has_go : (test : SubState → Bool) (xs : List SubState) (b : Bool) (n : ℕ) → (n < length xs → list_any test xs ≡ true) → step b n < suc (length xs) → (b || list_any test xs) ≡ true
has_go test xs true n ih lt = refl
has_go test xs false n ih lt = ih (omega (arith, lt))

pub has_first : (test : SubState → Bool) (xs : List SubState) → place test xs < length xs → list_any test xs ≡ true
has_first test [] lt = absurd (omega (arith, lt))
has_first test (x ∷ xs) lt = has_go test xs (test x) (place test xs) (has_first test xs) lt

has_none_go : (test : SubState → Bool) (xs : List SubState) (b : Bool) (n : ℕ) → (length xs ≤ n → list_any test xs ≡ false) → suc (length xs) ≤ step b n → (b || list_any test xs) ≡ false
has_none_go test xs true n ih le = absurd (omega (arith, le))
has_none_go test xs false n ih le = ih (omega (arith, le))

pub has_none : (test : SubState → Bool) (xs : List SubState) → length xs ≤ place test xs → list_any test xs ≡ false
has_none test [] le = refl
has_none test (x ∷ xs) le = has_none_go test xs (test x) (place test xs) (has_none test xs) le

find_go : (test : SubState → Bool) (x : SubState) (xs : List SubState) (y : SubState) (b : Bool) (n : ℕ)
    → (n < length xs → y ≡ slice_index_or xs n y → find test xs ≡ Some y) → step b n < suc (length xs) → y ≡ slice_index_or (x ∷ xs) (step b n) y → (if b then Some x else find test xs) ≡ Some y
find_go test x xs y true n ih lt e = ap Some (sym e)
find_go test x xs y false n ih lt e = ih (omega (arith, lt)) e

pub find_first : (test : SubState → Bool) (xs : List SubState) (y : SubState) → place test xs < length xs → y ≡ slice_index_or xs (place test xs) y → find test xs ≡ Some y
find_first test [] y lt e = absurd (omega (arith, lt))
find_first test (x ∷ xs) y lt e = find_go test x xs y (test x) (place test xs) (find_first test xs y) lt e

find_none_go : (test : SubState → Bool) (x : SubState) (xs : List SubState) (b : Bool) (n : ℕ) → (length xs ≤ n → find test xs ≡ None) → suc (length xs) ≤ step b n → (if b then Some x else find test xs) ≡ None
find_none_go test x xs true n ih le = absurd (omega (arith, le))
find_none_go test x xs false n ih le = ih (omega (arith, le))

pub find_none : (test : SubState → Bool) (xs : List SubState) → length xs ≤ place test xs → find test xs ≡ None
find_none test [] le = refl
find_none test (x ∷ xs) le = find_none_go test x xs (test x) (place test xs) (find_none test xs) le

-- ---- what is made of it

changed_go : (f : SubState → SubState) (d : List ℕ) (x : SubState) (xs : List SubState) (b : Bool) (n : ℕ)
    → (n < length xs → at_place f n xs ≡ changed f d xs) → step b n < suc (length xs) → at_place f (step b n) (x ∷ xs) ≡ (if b then f x ∷ xs else x ∷ changed f d xs)
changed_go f d x xs true n ih lt = refl
changed_go f d x xs false n ih lt = ap (λ ys. x ∷ ys) (ih (omega (arith, lt)))

pub changed_first : (f : SubState → SubState) (d : List ℕ) (xs : List SubState) → place (is_for d) xs < length xs → at_place f (place (is_for d) xs) xs ≡ changed f d xs
changed_first f d [] lt = refl
changed_first f d (x ∷ xs) lt = changed_go f d x xs (is_for d x) (place (is_for d) xs) (changed_first f d xs) lt

changed_none_go : (f : SubState → SubState) (d : List ℕ) (x : SubState) (xs : List SubState) (b : Bool) (n : ℕ)
    → (length xs ≤ n → xs ≡ changed f d xs) → suc (length xs) ≤ step b n → x ∷ xs ≡ (if b then f x ∷ xs else x ∷ changed f d xs)
changed_none_go f d x xs true n ih le = absurd (omega (arith, le))
changed_none_go f d x xs false n ih le = ap (λ ys. x ∷ ys) (ih (omega (arith, le)))

pub changed_none : (f : SubState → SubState) (d : List ℕ) (xs : List SubState) → length xs ≤ place (is_for d) xs → xs ≡ changed f d xs
changed_none f d [] le = refl
changed_none f d (x ∷ xs) le = changed_none_go f d x xs (is_for d x) (place (is_for d) xs) (changed_none f d xs) le

removed_go : (d : List ℕ) (x : SubState) (xs : List SubState) (b : Bool) (n : ℕ)
    → (n < length xs → remove xs n ≡ removed d xs) → step b n < suc (length xs) → remove (x ∷ xs) (step b n) ≡ (if b then xs else x ∷ removed d xs)
removed_go d x xs true n ih lt = refl
removed_go d x xs false n ih lt = ap (λ ys. x ∷ ys) (ih (omega (arith, lt)))

pub removed_first : (d : List ℕ) (xs : List SubState) → place (is_for d) xs < length xs → remove xs (place (is_for d) xs) ≡ removed d xs
removed_first d [] lt = absurd (omega (arith, lt))
removed_first d (x ∷ xs) lt = removed_go d x xs (is_for d x) (place (is_for d) xs) (removed_first d xs) lt

removed_none_go : (d : List ℕ) (x : SubState) (xs : List SubState) (b : Bool) (n : ℕ)
    → (length xs ≤ n → xs ≡ removed d xs) → suc (length xs) ≤ step b n → x ∷ xs ≡ (if b then xs else x ∷ removed d xs)
removed_none_go d x xs true n ih le = absurd (omega (arith, le))
removed_none_go d x xs false n ih le = ap (λ ys. x ∷ ys) (ih (omega (arith, le)))

pub removed_none : (d : List ℕ) (xs : List SubState) → length xs ≤ place (is_for d) xs → xs ≡ removed d xs
removed_none d [] le = refl
removed_none d (x ∷ xs) le = removed_none_go d x xs (is_for d x) (place (is_for d) xs) (removed_none d xs) le

moved_go : (f : SubState → SubState) (d : List ℕ) (x : SubState) (xs : List SubState) (y : SubState) (b : Bool) (n : ℕ)
    → (n < length xs → y ≡ slice_index_or xs n y → remove xs n ++ f y ∷ [] ≡ moved f d xs) → step b n < suc (length xs) → y ≡ slice_index_or (x ∷ xs) (step b n) y
    → remove (x ∷ xs) (step b n) ++ f y ∷ [] ≡ (if b then xs ++ f x ∷ [] else x ∷ moved f d xs)
moved_go f d x xs y true n ih lt e = ap (λ z. xs ++ f z ∷ []) e
moved_go f d x xs y false n ih lt e = ap (λ ys. x ∷ ys) (ih (omega (arith, lt)) e)

pub moved_first : (f : SubState → SubState) (d : List ℕ) (xs : List SubState) (y : SubState) → place (is_for d) xs < length xs
    → y ≡ slice_index_or xs (place (is_for d) xs) y → remove xs (place (is_for d) xs) ++ f y ∷ [] ≡ moved f d xs
moved_first f d [] y lt e = absurd (omega (arith, lt))
moved_first f d (x ∷ xs) y lt e = moved_go f d x xs y (is_for d x) (place (is_for d) xs) (moved_first f d xs y) lt e

-- ---- a change at a place

pub set_place : (f : SubState → SubState) (xs : List SubState) (i : ℕ) (y z : SubState) → i < length xs → y ≡ slice_index_or xs i y → z ≡ f y → slice_set xs i z ≡ at_place f i xs
set_place f [] i y z lt e e' = absurd (omega (arith, lt))
set_place f (x ∷ xs) zero y z lt e e' = ap (λ w. w ∷ xs) (e' ∙ ap f e)
set_place f (x ∷ xs) (suc i) y z lt e e' = ap (λ ys. x ∷ ys) (set_place f xs i y z (omega (arith, lt)) e e')

pub past_place : (f : SubState → SubState) (xs : List SubState) (i : ℕ) → length xs ≤ i → xs ≡ at_place f i xs
past_place f [] i le = refl
past_place f (x ∷ xs) zero le = absurd (omega (arith, le))
past_place f (x ∷ xs) (suc i) le = ap (λ ys. x ∷ ys) (past_place f xs i (omega (arith, le)))
