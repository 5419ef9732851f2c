-- Filters of filters.
use Rattle.std.proofs.Common.{◌≡◌, ◌&&◌, not, Bool, true, false, if◌then◌else◌, List, [], ◌∷◌, length, filter, refl, ap, ◌∙◌, arith}

module _ {X : Type 0} where
  -- what passes no test passes none after another
  pub filter_still : (p q : X → Bool) (xs : List X) → filter p xs ≡ [] → filter p (filter q xs) ≡ []
  filter_still p q [] e = refl
  filter_still p q (x ∷ xs) e = go (q x) (p x) refl e (λ (f : filter p xs ≡ []). filter_still p q xs f) where
    go : (b c : Bool) → p x ≡ c → (if c then x ∷ filter p xs else filter p xs) ≡ [] → (filter p xs ≡ [] → filter p (filter q xs) ≡ []) → filter p (if b then x ∷ filter q xs else filter q xs) ≡ []
    go b true f e ih = absurd (omega (arith, ap length e))
    go true false f e ih = ap (λ (c : Bool). if c then x ∷ filter p (filter q xs) else filter p (filter q xs)) f ∙ ih e
    go false false f e ih = ih e

  pub filter_none : (p : X → Bool) (xs : List X) → filter p (filter (λ x. not (p x)) xs) ≡ []
  filter_none p [] = refl
  filter_none p (x ∷ xs) = go (p x) refl (filter_none p xs) where
    go : (b : Bool) → p x ≡ b → filter p (filter (λ x. not (p x)) xs) ≡ [] → filter p (if not b then x ∷ filter (λ x. not (p x)) xs else filter (λ x. not (p x)) xs) ≡ []
    go true e ih = ih
    go false e ih = ap (λ (c : Bool). if c then x ∷ filter p (filter (λ x. not (p x)) xs) else filter p (filter (λ x. not (p x)) xs)) e ∙ ih

  -- a test after another is both
  pub filter_both : (p q : X → Bool) (xs : List X) → filter p (filter q xs) ≡ filter (λ x. q x && p x) xs
  filter_both p q [] = refl
  filter_both p q (x ∷ xs) = go (q x) (filter_both p q xs) where
    go : (b : Bool) → filter p (filter q xs) ≡ filter (λ x. q x && p x) xs → filter p (if b then x ∷ filter q xs else filter q xs) ≡ (if b && p x then x ∷ filter (λ x. q x && p x) xs else filter (λ x. q x && p x) xs)
    go true ih = ap (λ (ys : List X). if p x then x ∷ ys else ys) ih
    go false ih = ih
