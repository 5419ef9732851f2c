-- Ranges that come while numbers are below 2^62 name none beyond 2^62 + 2^33.
use Rattle.std.proofs.Common.{◌≡◌, ℕ, ◌+◌, ◌-◌, ◌^◌, ◌%◌, ◌<◌, ◌≤◌, ◌||◌, ◌&&◌, ◌∙◌, refl, max, nat_lt, nat_le, Bool, true, false, if◌then◌else◌, List, [], ◌∷◌, ◌++◌, Option, Some, None, sym, ap, subst, arith, inl, inr}
use Rattle.std.specs.Option.{option_to_list}
use Rattle.std.proofs.lemmas.Bool.{cases_Bool, cases_lt, true≢false, leb-true, leb-false, ltb-true, ltb-false}
use Rattle.std.proofs.lemmas.Bool.Decides.{nat_tests}
use Rattle.amqp_values.specs.declared.value.Range.{Range}
use Rattle.serial_ranges.specs.Runs.{names, within, AreRanges, IsLeastMissing}
use Rattle.serial_ranges.specs.Serial.{ahead_of, shifted, width, unwrapped_range}
use Rattle.history_model.specs.Life.{named}
use Rattle.session_core.specs.Received.{IsPast, from_on}

mod_lt : (n : ℕ) → n % 2 ^ 32 < 2 ^ 32
mod_lt n = omega arith

-- a run that is one, and within reach
abbrev InReach : Option (ℕ × ℕ) → Type 0
InReach None = Unit {0}
InReach (Some run) = (run.0 ≤ run.1) × (run.1 < 2 ^ 62 + 2 ^ 33)

range_go : (reference s w : ℕ) → reference < 2 ^ 62 → s ≤ reference + 2 ^ 32 + 2 ^ 31 → w < 2 ^ 32
    → InReach (if nat_lt (s + w) (2 ^ 32) then None else Some (max s (2 ^ 32) - 2 ^ 32, s + w - 2 ^ 32))
range_go reference s w small low few =
    elim (cases_Bool (nat_lt (s + w) (2 ^ 32))) [
      | inl t ↦ subst (λ b. InReach (if b then None else Some (max s (2 ^ 32) - 2 ^ 32, s + w - 2 ^ 32))) (sym t) tt
      | inr f ↦ subst (λ b. InReach (if b then None else Some (max s (2 ^ 32) - 2 ^ 32, s + w - 2 ^ 32))) (sym f)
          (omega (arith, ltb-false (s + w) (2 ^ 32) f), omega (arith, ltb-false (s + w) (2 ^ 32) f, small, low, few))
    ]

shift_go : (reference a : ℕ) (b : Bool) → a < 2 ^ 32 → (b ≡ true → a < 2 ^ 31) → reference + a + (if b then 2 ^ 32 else 0) ≤ reference + 2 ^ 32 + 2 ^ 31
shift_go reference a true lt h = omega (arith, h refl)
shift_go reference a false lt h = omega (arith, lt)

range_in : (reference lower upper : ℕ) → reference < 2 ^ 62 → InReach (unwrapped_range reference lower upper)
range_in reference lower upper small =
    range_go reference (shifted reference lower) (width lower upper) small
    (shift_go reference (ahead_of reference lower) (nat_lt (ahead_of reference lower) (2 ^ 31)) (mod_lt (lower + 2 ^ 32 - reference % 2 ^ 32)) (ltb-true (ahead_of reference lower) (2 ^ 31)))
    (mod_lt (upper + 2 ^ 32 - lower))

more_in : (o : Option (ℕ × ℕ)) (runs : List (ℕ × ℕ)) → InReach o → AreRanges runs → AreRanges (option_to_list o ++ runs)
more_in None runs i a = a
more_in (Some run) runs i a = (i.0, omega (arith, i.1), a)

pub named_are : (reference : ℕ) (ranges : List Range) → reference < 2 ^ 62 → AreRanges (named reference ranges)
named_are reference [] small = tt
named_are reference (r ∷ ranges) small = more_in (unwrapped_range reference r.lower r.upper) (named reference ranges) (range_in reference r.lower r.upper small) (named_are reference ranges small)

by_and : (run : ℕ × ℕ) (n : ℕ) (b : Bool) → (b && nat_le n run.1) ≡ true → n ≤ run.1
by_and run n true e = leb-true n run.1 e
by_and run n false e = absurd (true≢false (sym e))

upto : (run : ℕ × ℕ) (n : ℕ) → within run n ≡ true → n ≤ run.1
upto run n e = by_and run n (nat_le run.0 n) e

more_reach : (o : Option (ℕ × ℕ)) (runs : List (ℕ × ℕ)) (n : ℕ) → InReach o → (names runs n ≡ true → n < 2 ^ 62 + 2 ^ 33) → names (option_to_list o ++ runs) n ≡ true → n < 2 ^ 62 + 2 ^ 33
more_reach None runs n i rest e = rest e
more_reach (Some run) runs n i rest e =
    elim (cases_Bool (within run n)) [
      | inl t ↦ omega (arith, upto run n t, i.1)
      | inr f ↦ rest (sym (ap (λ b. b || names runs n) f) ∙ e)
    ]

pub named_reach : (reference : ℕ) (ranges : List Range) (n : ℕ) → reference < 2 ^ 62 → names (named reference ranges) n ≡ true → n < 2 ^ 62 + 2 ^ 33
named_reach reference [] n small e = absurd (true≢false (sym e))
named_reach reference (r ∷ ranges) n small e =
    more_reach (unwrapped_range reference r.lower r.upper) (named reference ranges) n (range_in reference r.lower r.upper small) (named_reach reference ranges n small) e

-- ---- what the ranges name from a number on

from_are_go : (low : ℕ) (run : ℕ × ℕ) (runs : List (ℕ × ℕ)) (b : Bool) → nat_le low run.1 ≡ b → run.0 ≤ run.1 → run.1 < 2 ^ 63 → AreRanges runs → AreRanges (if b then (max run.0 low, run.1) ∷ runs else runs)
from_are_go low run runs true e in_order small a = (omega (arith, in_order, leb-true low run.1 e), small, a)
from_are_go low run runs false e in_order small a = a

pub from_are : (low : ℕ) (runs : List (ℕ × ℕ)) → AreRanges runs → AreRanges (from_on low runs)
from_are low [] a = tt
from_are low (run ∷ runs) a = from_are_go low run (from_on low runs) (nat_le low run.1) refl a.0 a.1 (from_are low runs a.2)

-- the greater of two starts
max_test : (low start n : ℕ) → low ≤ n → nat_le (max start low) n ≡ nat_le start n
max_test low start n le = grind (arith, nat_tests, le)

within_none : (run : ℕ × ℕ) (n : ℕ) → run.1 < n → within run n ≡ false
within_none run n lt = elim (cases_Bool (within run n)) [
  | inl t ↦ absurd (omega (arith, lt, upto run n t))
  | inr f ↦ f
]

from_names_go : (low : ℕ) (run : ℕ × ℕ) (runs : List (ℕ × ℕ)) (n : ℕ) (b : Bool) → nat_le low run.1 ≡ b → low ≤ n → names (from_on low runs) n ≡ names runs n
    → names (if b then (max run.0 low, run.1) ∷ from_on low runs else from_on low runs) n ≡ (within run n || names runs n)
from_names_go low run runs n true e le ih = ap (λ t. (t && nat_le n run.1) || names (from_on low runs) n) (max_test low run.0 n le) ∙ ap (λ t. within run n || t) ih
from_names_go low run runs n false e le ih = ih ∙ sym (ap (λ t. t || names runs n) (within_none run n (omega (arith, le, leb-false low run.1 e))))

pub from_names : (low : ℕ) (runs : List (ℕ × ℕ)) (n : ℕ) → low ≤ n → names (from_on low runs) n ≡ names runs n
from_names low [] n le = refl
from_names low (run ∷ runs) n le = from_names_go low run runs n (nat_le low run.1) refl le (from_names low runs n le)

below_none : (low start n : ℕ) → n < low → nat_le (max start low) n ≡ false
below_none low start n lt = grind (arith, nat_tests, lt)

from_none_go : (low : ℕ) (run : ℕ × ℕ) (runs : List (ℕ × ℕ)) (n : ℕ) (b : Bool) → n < low → names (from_on low runs) n ≡ false
    → names (if b then (max run.0 low, run.1) ∷ from_on low runs else from_on low runs) n ≡ false
from_none_go low run runs n true lt ih = ap (λ t. (t && nat_le n run.1) || names (from_on low runs) n) (below_none low run.0 n lt) ∙ ih
from_none_go low run runs n false lt ih = ih

pub from_none : (low : ℕ) (runs : List (ℕ × ℕ)) (n : ℕ) → n < low → names (from_on low runs) n ≡ false
from_none low [] n lt = refl
from_none low (run ∷ runs) n lt = from_none_go low run runs n (nat_le low run.1) lt (from_none low runs n lt)

pub from_reach : (low : ℕ) (runs : List (ℕ × ℕ)) (n : ℕ) → names (from_on low runs) n ≡ true → names runs n ≡ true
from_reach low runs n e =
    elim (cases_lt n low) [
      | inl lt ↦ absurd (true≢false (sym e ∙ from_none low runs n lt))
      | inr ge ↦ sym (from_names low runs n ge) ∙ e
    ]

-- ---- the least number that is missing is within reach too

pub missing_reach : (runs : List (ℕ × ℕ)) (from n : ℕ) → ((m : ℕ) → names runs m ≡ true → m < 2 ^ 62 + 2 ^ 33) → from ≤ 2 ^ 62 + 2 ^ 33 → IsLeastMissing runs from n → n ≤ 2 ^ 62 + 2 ^ 33
missing_reach runs from n reach low l =
    elim (cases_lt from n) [
      | inl lt ↦ omega (arith, lt, reach (n - 1) (l.before (n - 1) (omega (arith, lt)) (omega (arith, lt))))
      | inr ge ↦ omega (arith, ge, low)
    ]

pub past_reach : (runs : List (ℕ × ℕ)) (from n : ℕ) → ((m : ℕ) → names runs m ≡ true → m < 2 ^ 62 + 2 ^ 33) → from ≤ 2 ^ 62 + 2 ^ 33 → IsPast runs from n → n ≤ 2 ^ 62 + 2 ^ 33
past_reach runs from n reach low l =
    elim (cases_lt from n) [
      | inl lt ↦ omega (arith, lt, reach (n - 1) (l.before (n - 1) (omega (arith, lt)) (omega (arith, lt))))
      | inr ge ↦ omega (arith, ge, low)
    ]
