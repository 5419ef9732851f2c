-- Digits never make a number less.
use Rattle.std.proofs.Common.{◌≡◌, ℕ, ◌+◌, ◌-◌, ◌*◌, ◌<◌, ◌&&◌, leb, cond, true, false, List, [], ◌∷◌, Option, None, Some, ◌∙◌, ap, sym, refl, arith}
use Rattle.std.proofs.lemmas.Bool.{cond-true, cond-false, cond_both, lt-leb}
use Rattle.trace_words.specs.Numbers.{digits_from, upto}

-- a number above the greatest stays so
pub upto_none : (greatest number : ℕ) (digits : List ℕ) → greatest < number → upto greatest (digits_from number digits) ≡ None
upto_none greatest number [] h = cond-false (leb number greatest) (Some number) None (lt-leb number greatest h)
upto_none greatest number (digit ∷ digits) h =
    cond_both (leb 48 digit && leb digit 57) (digits_from (10 * number + (digit - 48)) digits) None (λ o. upto greatest o ≡ None)
    (λ _. upto_none greatest (10 * number + (digit - 48)) digits (omega arith)) (λ _. refl)

-- one digit more
pub digit_next : (number digit : ℕ) (digits : List ℕ) → (leb 48 digit && leb digit 57) ≡ true → digits_from number (digit ∷ digits) ≡ digits_from (10 * number + (digit - 48)) digits
digit_next number digit digits h = cond-true (leb 48 digit && leb digit 57) (digits_from (10 * number + (digit - 48)) digits) None h
