-- Where an LF stands first, and what holds none.
use Rattle.std.proofs.Common.{◌≡◌, ℕ, ◌<◌, eqb, false, List, ◌∷◌, ◌++◌, length, take, drop, get_or, Option, Some, None, ◌∙◌, ap, sym, subst, arith, MatchOption, add-one, drop-cons}
use Rattle.std.proofs.lemmas.Bool.{or_from, or_parts, eqb-true, false_from_ne_true}
use Rattle.std.proofs.lemmas.List.{get_or-take, take-append-drop, length-take}
use Rattle.std.proofs.lemmas.List.Folds.{list_any-append, list_any_none}
use Rattle.std.proofs.lemmas.List.Elements.{All-from_get_or}
use Rattle.memchr.specs.Find.{IsFirstByte, is_byte}
use Rattle.line_runs.specs.Breaks.{IsUnbroken, BreaksAtFirst}

-- two runs of octets without an LF make one
pub unbroken-append : (xs ys : List ℕ) → IsUnbroken xs → IsUnbroken ys → IsUnbroken (xs ++ ys)
unbroken-append xs ys a b = list_any-append (λ octet. eqb octet 10) xs ys ∙ or_from _ _ a b

-- a front of octets without an LF has none
pub unbroken_front : (xs ys : List ℕ) → IsUnbroken (xs ++ ys) → IsUnbroken xs
unbroken_front xs ys h = (or_parts _ _ (sym (list_any-append (λ octet. eqb octet 10) xs ys) ∙ h)).0

-- octets of which none is an LF
pub unbroken_at : (xs : List ℕ) → ((k : ℕ) → k < length xs → eqb (get_or xs k 0) 10 ≡ false) → IsUnbroken xs
unbroken_at xs h = list_any_none (λ octet. eqb octet 10) xs (All-from_get_or (λ x. eqb x 10 ≡ false) xs 0 h)

-- what a search for the first LF tells
pub breaks_of : (r : Option ℕ) (xs : List ℕ) → IsFirstByte (is_byte 10) xs r → MatchOption r (IsUnbroken xs) (BreaksAtFirst xs)
breaks_of None xs h = unbroken_at xs (λ k lt. false_from_ne_true (eqb (get_or xs k 0) 10) (h k (omega arith) lt))
breaks_of (Some n) xs h = record {
  within = h.0.high;
  before = unbroken_at (take n xs) (λ k lt.
      let below : k < n = omega (arith, length-take n xs) in
      subst (λ x. eqb x 10 ≡ false) (sym (get_or-take n xs k 0 below)) (false_from_ne_true (eqb (get_or xs k 0) 10) (h.0.before k (omega arith) below)));
  parts = sym (take-append-drop n xs) ∙ ap (λ ys. take n xs ++ ys)
      (drop-cons xs n 0 h.0.high ∙ ap (λ x. x ∷ drop (Prim.Native.Nat.suc n) xs) (eqb-true (get_or xs n 0) 10 h.1) ∙ ap (λ k. 10 ∷ drop k xs) (sym (add-one n)));
}
