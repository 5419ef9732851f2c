-- What doesn't fit 64 bits is above the greatest.
use Rattle.std.proofs.Common.{◌≡◌, ◌+◌, ◌-◌, ◌*◌, ◌^◌, ◌≤◌, ◌&&◌, leb, true, inl, inr, ap, sym, ◌∙◌, arith}
use Rattle.std.proofs.lemmas.Bool.{and_from, le-leb, cases_lt}
use Rattle.trace_words.specs.Numbers.{digits_from, upto}
use Rattle.trace_words.proofs.Digits.{upto_none, digit_next}
use Rattle.trace_words.proofs.number.digits_upto.Goals as goal

pub returns-in-None : goal.returns-in-None
returns-in-None c =
    let digit = c.in-Some.digit.now in
    let number = c.loop-digit.number in
    let is_digit : (leb 48 digit && leb digit 57) ≡ true = and_from (leb 48 digit) (leb digit 57) (le-leb 48 digit (omega arith)) (le-leb digit 57 (omega arith)) in
    let beyond : 2 ^ 64 ≤ 10 * number + (digit - 48) =
    elim (cases_lt (10 * number + (digit - 48)) (2 ^ 64)) [ inl lt ↦ absurd (c.in-None.ensures lt) | inr ge ↦ ge ] in
    sym (ap (upto c.args.greatest) (sym c.loop-digit.invariant ∙ ap (digits_from number) c.in-Some.ensures.cases.0 ∙ digit_next number digit c.in-Some.more.now is_digit)
    ∙ upto_none c.args.greatest (10 * number + (digit - 48)) c.in-Some.more.now (omega (arith, c.ranges.greatest.fits)))
