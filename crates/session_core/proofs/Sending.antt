-- Rising numbers: where those of a range stand, and what is left without them.
use Rattle.std.proofs.Common.{◌≡◌, ℕ, zero, suc, ◌+◌, ◌-◌, ◌<◌, ◌≤◌, max, Bool, true, false, not, ◌&&◌, ◌||◌, List, [], ◌∷◌, ◌++◌, length, take, drop, slice_index_or, nat_lt, nat_le, ◌==◌, refl, sym, ap, ◌∙◌, subst, arith, inl, inr}
use Rattle.std.specs.List.{slice_range, remove_range}
use Rattle.std.specs.List.Sorted.{IsPartitionPoint, IsNonDecreasingBy}
use Rattle.std.proofs.lemmas.Bool.{or_from, and_left, and_right, ne_eqb, cases_lt, true≢false, ltb-true, ltb-false, lt-leb, le-leb}
use Rattle.std.proofs.lemmas.List.{take-append-drop, drop-take, drop-drop}
use Rattle.std.proofs.lemmas.List.Folds.{list_any-append}
use Rattle.serial_ranges.specs.Runs.{within, AreRanges}
use Rattle.serial_ranges.specs.Runs.{Rise as Rising}
use Rattle.session_core.specs.Sent.{has, Rise, Below, From, IsSplit, IsBetween}

-- ---- rising numbers

-- a number past all of them
pub rise_more : (low limit : ℕ) (numbers : List ℕ) → Rise low limit numbers → Rise low (limit + 1) (numbers ++ limit ∷ [])
rise_more low limit [] r = (r, omega arith)
rise_more low limit (n ∷ numbers) r = (r.0, rise_more (n + 1) limit numbers r.1)

rise_low : (low less limit : ℕ) (numbers : List ℕ) → less ≤ low → Rise low limit numbers → Rise less limit numbers
rise_low low less limit [] le r = omega (arith, le, r)
rise_low low less limit (n ∷ numbers) le r = (omega (arith, le, r.0), r.1)

pub rise_high : (low limit more : ℕ) (numbers : List ℕ) → limit ≤ more → Rise low limit numbers → Rise low more numbers
rise_high low limit more [] le r = omega (arith, le, r)
rise_high low limit more (n ∷ numbers) le r = (r.0, rise_high (n + 1) limit more numbers le r.1)

rise_ends : (low limit : ℕ) (numbers : List ℕ) → Rise low limit numbers → low ≤ limit
rise_ends low limit [] r = r
rise_ends low limit (n ∷ numbers) r = omega (arith, r.0, rise_ends (n + 1) limit numbers r.1)

pub rise_below : (low limit : ℕ) (numbers : List ℕ) → Rise low limit numbers → Below limit numbers
rise_below low limit [] r = tt
rise_below low limit (n ∷ numbers) r = (omega (arith, rise_ends (n + 1) limit numbers r.1), rise_below (n + 1) limit numbers r.1)

rise_from : (low limit less : ℕ) (numbers : List ℕ) → less ≤ low → Rise low limit numbers → From less numbers
rise_from low limit less [] le r = tt
rise_from low limit less (n ∷ numbers) le r = (omega (arith, le, r.0), rise_from (n + 1) limit less numbers (omega (arith, le, r.0)) r.1)

-- without those in the midst
rise_without : (low limit : ℕ) (xs1 xs2 xs3 : List ℕ) → Rise low limit (xs1 ++ (xs2 ++ xs3)) → Rise low limit (xs1 ++ xs3)
rise_without low limit [] [] xs3 r = r
rise_without low limit [] (b ∷ xs2) xs3 r = rise_low (b + 1) low limit xs3 (omega (arith, r.0)) (rise_without (b + 1) limit [] xs2 xs3 r.1)
rise_without low limit (a ∷ xs1) xs2 xs3 r = (r.0, rise_without (a + 1) limit xs1 xs2 xs3 r.1)

-- ---- all of them

from_get : (low : ℕ) (xs : List ℕ) (k d : ℕ) → From low xs → k < length xs → low ≤ slice_index_or xs k d
from_get low [] k d f lt = absurd (omega (arith, lt))
from_get low (x ∷ xs) zero d f lt = f.0
from_get low (x ∷ xs) (suc k) d f lt = from_get low xs k d f.1 (omega (arith, lt))

pub rises : (low limit : ℕ) (xs : List ℕ) → Rise low limit xs → IsNonDecreasingBy (λ n. n) xs
rises low limit [] r i j d le lt = absurd (omega (arith, lt))
rises low limit (x ∷ xs) r zero zero d le lt = omega arith
rises low limit (x ∷ xs) r zero (suc j) d le lt = from_get x xs j d (rise_from (x + 1) limit x xs (omega arith) r.1) (omega (arith, lt))
rises low limit (x ∷ xs) r (suc i) zero d le lt = absurd (omega (arith, le))
rises low limit (x ∷ xs) r (suc i) (suc j) d le lt = rises (x + 1) limit xs r.1 i j d (omega (arith, le)) (omega (arith, lt))

below_front : (limit : ℕ) (xs : List ℕ) (i : ℕ) → ((k d : ℕ) → k < i → slice_index_or xs k d < limit) → Below limit (take i xs)
below_front limit xs zero f = tt
below_front limit [] (suc i) f = tt
below_front limit (x ∷ xs) (suc i) f = (f zero x (omega arith), below_front limit xs i (λ k d lt. f (suc k) d (omega (arith, lt))))

from_all : (low : ℕ) (xs : List ℕ) → ((k d : ℕ) → k < length xs → low ≤ slice_index_or xs k d) → From low xs
from_all low [] f = tt
from_all low (x ∷ xs) f = (f zero x (omega arith), from_all low xs (λ k d lt. f (suc k) d (omega (arith, lt))))

from_back : (low : ℕ) (xs : List ℕ) (i : ℕ) → ((k d : ℕ) → i ≤ k → k < length xs → low ≤ slice_index_or xs k d) → From low (drop i xs)
from_back low xs zero f = from_all low xs (λ k d lt. f k d (omega arith) lt)
from_back low [] (suc i) f = tt
from_back low (x ∷ xs) (suc i) f = from_back low xs i (λ k d ge lt. f (suc k) d (omega (arith, ge)) (omega (arith, lt)))

pub split_numbers : (xs : List ℕ) (number i : ℕ) → i ≤ length xs → IsPartitionPoint (λ n. nat_lt n number ≡ true) (λ n. nat_lt n number ≡ false) xs i → IsSplit xs number i
split_numbers xs number i few p = record {
  few = few;
  front = below_front number xs i (λ k d lt. ltb-true (slice_index_or xs k d) number (p.0 k d (omega arith) lt));
  back = from_back number xs i (λ k d ge lt. omega (arith, ltb-false (slice_index_or xs k d) number (p.1 k d ge lt)));
}

below_drop : (limit : ℕ) (xs : List ℕ) (i : ℕ) → Below limit xs → Below limit (drop i xs)
below_drop limit xs zero b = b
below_drop limit [] (suc i) b = tt
below_drop limit (x ∷ xs) (suc i) b = below_drop limit xs i b.1

pub below_take : (limit : ℕ) (xs : List ℕ) (i : ℕ) → Below limit xs → Below limit (take i xs)
below_take limit xs zero b = tt
below_take limit [] (suc i) b = tt
below_take limit (x ∷ xs) (suc i) b = (b.0, below_take limit xs i b.1)

pub below_range : (limit : ℕ) (xs : List ℕ) (i j : ℕ) → Below limit xs → Below limit (slice_range xs i j)
below_range limit xs i j b = below_take limit (drop i xs) (j - i) (below_drop limit xs i b)

from_take : (low : ℕ) (xs : List ℕ) (i : ℕ) → From low xs → From low (take i xs)
from_take low xs zero f = tt
from_take low [] (suc i) f = tt
from_take low (x ∷ xs) (suc i) f = (f.0, from_take low xs i f.1)

from_drop : (low : ℕ) (xs : List ℕ) (i : ℕ) → From low xs → From low (drop i xs)
from_drop low xs zero f = f
from_drop low [] (suc i) f = tt
from_drop low (x ∷ xs) (suc i) f = from_drop low xs i f.1

-- ---- membership

has_below : (limit : ℕ) (xs : List ℕ) (n : ℕ) → Below limit xs → limit ≤ n → has xs n ≡ false
has_below limit [] n b le = refl
has_below limit (x ∷ xs) n b le = or_from (x == n) (has xs n) (ne_eqb x n (λ e. omega (arith, e, b.0, le))) (has_below limit xs n b.1 le)

has_from : (low : ℕ) (xs : List ℕ) (n : ℕ) → From low xs → n < low → has xs n ≡ false
has_from low [] n f lt = refl
has_from low (x ∷ xs) n f lt = or_from (x == n) (has xs n) (ne_eqb x n (λ e. omega (arith, e, f.0, lt))) (has_from low xs n f.1 lt)

-- three parts, of which the middle one is in a range
inside_by : (a b c w : Bool) → (w ≡ true → a ≡ false) → (w ≡ true → c ≡ false) → (w ≡ false → b ≡ false) → b ≡ (w && (a || (b || c)))
inside_by true b c true ha hc hb = absurd (true≢false (ha refl))
inside_by false b true true ha hc hb = absurd (true≢false (hc refl))
inside_by false true false true ha hc hb = refl
inside_by false false false true ha hc hb = refl
inside_by a true c false ha hc hb = absurd (true≢false (hb refl))
inside_by a false c false ha hc hb = refl

outside_by : (a b c w : Bool) → (w ≡ true → a ≡ false) → (w ≡ true → c ≡ false) → (w ≡ false → b ≡ false) → (a || c) ≡ (not w && (a || (b || c)))
outside_by true b c true ha hc hb = absurd (true≢false (ha refl))
outside_by false b true true ha hc hb = absurd (true≢false (hc refl))
outside_by false b false true ha hc hb = refl
outside_by a true c false ha hc hb = absurd (true≢false (hb refl))
outside_by a false c false ha hc hb = refl

within_ends : (lower upper n : ℕ) → within (lower, upper) n ≡ true → (lower ≤ n) × (n ≤ upper)
within_ends lower upper n e =
    elim (cases_lt n lower) [
      | inl lt ↦ absurd (true≢false (sym e ∙ and_left (nat_le lower n) (nat_le n upper) (lt-leb lower n lt)))
      | inr ge ↦ elim (cases_lt upper n) [
        | inl lt ↦ absurd (true≢false (sym e ∙ and_right (nat_le lower n) (nat_le n upper) (lt-leb n upper lt)))
        | inr le ↦ (ge, le)
      ]
    ]

out_of : (lower upper n : ℕ) → within (lower, upper) n ≡ false → lower ≤ n → upper < n
out_of lower upper n e le =
    elim (cases_lt upper n) [
      | inl lt ↦ lt
      | inr ge ↦ absurd (true≢false (sym (and_both (nat_le lower n) (nat_le n upper) (le-leb lower n le) (le-leb n upper ge)) ∙ e))
    ]
  where
    and_both : (a b : Bool) → a ≡ true → b ≡ true → (a && b) ≡ true
    and_both true true e f = refl
    and_both false b e f = e
    and_both true false e f = f

-- ---- the numbers of a range

three_parts : (xs : List ℕ) (i j : ℕ) → i ≤ j → take i xs ++ (slice_range xs i j ++ drop j xs) ≡ xs
three_parts xs i j le =
    let back : drop (j - i) (drop i xs) ≡ drop j xs = drop-drop (j - i) i xs ∙ ap (λ k. drop k xs) (omega (arith, le)) in
    ap (λ ys. take i xs ++ (slice_range xs i j ++ ys)) (sym back) ∙ ap (λ ys. take i xs ++ ys) (take-append-drop (j - i) (drop i xs)) ∙ take-append-drop i xs

has_parts : (xs1 xs2 xs3 : List ℕ) (n : ℕ) → has (xs1 ++ (xs2 ++ xs3)) n ≡ (has xs1 n || (has xs2 n || has xs3 n))
has_parts xs1 xs2 xs3 n = list_any-append (λ m. m == n) xs1 (xs2 ++ xs3) ∙ ap (λ t. has xs1 n || t) (list_any-append (λ m. m == n) xs2 xs3)

range_below : (xs : List ℕ) (limit i j : ℕ) → Below limit (take j xs) → Below limit (slice_range xs i (max j i))
range_below xs limit i j b =
    elim (cases_lt i j) [
      | inl lt ↦
          let same : max j i - i ≡ j - i = omega (arith, lt) in
          let whole : i + (j - i) ≡ j = omega (arith, lt) in
          let e = ap (λ k. take k (drop i xs)) same ∙ sym (drop-take i (j - i) xs) ∙ ap (λ k. drop i (take k xs)) whole in
          subst (Below limit) (sym e) (below_drop limit (take j xs) i b)
      | inr ge ↦
          let none : 0 ≡ max j i - i = omega (arith, ge) in
          subst (λ k. Below limit (take k (drop i xs))) none tt
    ]

pub between_is : (xs : List ℕ) (lower upper start end : ℕ) → IsSplit xs lower start → IsSplit xs (upper + 1) end → IsBetween xs lower upper start (max end start)
between_is xs lower upper start end s e = record {
  order = omega arith;
  few = omega (arith, s.few, e.few);
  inside = λ n. inside_by (has xs1 n) (has xs2 n) (has xs3 n) (within (lower, upper) n) (front n) (back n) (middle n) ∙ ap (λ t. within (lower, upper) n && t) (all n);
  outside = λ n. list_any-append (λ m. m == n) xs1 xs3 ∙ outside_by (has xs1 n) (has xs2 n) (has xs3 n) (within (lower, upper) n) (front n) (back n) (middle n) ∙ ap (λ t. not (within (lower, upper) n) && t) (all n);
}
  where
    xs1 : List ℕ
    xs1 = take start xs

    xs2 : List ℕ
    xs2 = slice_range xs start (max end start)

    xs3 : List ℕ
    xs3 = drop (max end start) xs

    all : (n : ℕ) → (has xs1 n || (has xs2 n || has xs3 n)) ≡ has xs n
    all n = sym (has_parts xs1 xs2 xs3 n) ∙ ap (λ ys. has ys n) (three_parts xs start (max end start) (omega arith))

    rest : From (upper + 1) xs3
    rest = subst (From (upper + 1)) (drop-drop (max end start - end) end xs ∙ ap (λ k. drop k xs) (omega arith)) (from_drop (upper + 1) (drop end xs) (max end start - end) e.back)

    front : (n : ℕ) → within (lower, upper) n ≡ true → has xs1 n ≡ false
    front n w = has_below lower xs1 n s.front (within_ends lower upper n w).0

    back : (n : ℕ) → within (lower, upper) n ≡ true → has xs3 n ≡ false
    back n w = has_from (upper + 1) xs3 n rest (omega (arith, (within_ends lower upper n w).1))

    middle : (n : ℕ) → within (lower, upper) n ≡ false → has xs2 n ≡ false
    middle n w =
        elim (cases_lt n lower) [
          | inl lt ↦ has_from lower xs2 n (from_take lower (drop start xs) (max end start - start) s.back) lt
          | inr ge ↦ has_below (upper + 1) xs2 n (range_below xs (upper + 1) start end e.front) (omega (arith, out_of lower upper n w ge))
        ]

pub rise_outside : (xs : List ℕ) (low limit i j : ℕ) → i ≤ j → Rise low limit xs → Rise low limit (remove_range xs i j)
rise_outside xs low limit i j le r = rise_without low limit (take i xs) (slice_range xs i j) (drop j xs) (subst (Rise low limit) (sym (three_parts xs i j le)) r)

-- the runs of a set are ranges
pub are_ranges : (low : ℕ) (runs : List (ℕ × ℕ)) → Rising low runs → AreRanges runs
are_ranges low [] r = tt
are_ranges low (run ∷ runs) r = (r.1, r.2, are_ranges (run.1 + 2) runs r.3)
