-- Lists related part by part, the parts of one through a function.
use Rattle.std.proofs.Common.{◌≡◌, ℕ, zero, suc, ◌+◌, ◌==◌, ◌<◌, ◌&&◌, not, Bool, true, false, List, [], ◌∷◌, length, map, take, slice_index_or, refl, sym, ap, subst, ◌∙◌, arith}
use Rattle.std.proofs.lemmas.Bool.{true≢false}
use Rattle.header_match.specs.Equality.{pairwise}

or_false : (x y : Bool) → y ≡ false → (x && y) ≡ false
or_false true y e = e
or_false false y e = refl

module _ {X A B : Type 0} (f : X → A) (related : A → B → Bool) where
  -- lists of other lengths aren't
  pub other_lengths : (xs : List X) (ys : List B) → (length xs ≡ length ys → ⊥) → pairwise related (map f xs) ys ≡ false
  other_lengths [] [] apart = absurd (apart refl)
  other_lengths [] (y ∷ ys) apart = refl
  other_lengths (x ∷ xs) [] apart = refl
  other_lengths (x ∷ xs) (y ∷ ys) apart = or_false (related (f x) y) (pairwise related (map f xs) ys) (other_lengths xs ys (λ e. apart (ap suc e)))

  -- parts that aren't related are enough
  pub one_apart : (xs : List X) (ys : List B) (i : ℕ) (x : X) (y : B) → i < length xs → i < length ys → x ≡ slice_index_or xs i x → y ≡ slice_index_or ys i y → related (f x) y ≡ false → pairwise related (map f xs) ys ≡ false
  one_apart [] ys i x y low high here there e = absurd (omega (arith, low))
  one_apart (a ∷ az) [] i x y low high here there e = absurd (omega (arith, high))
  one_apart (a ∷ az) (b ∷ bs) zero x y low high here there e = ap (λ (r : Bool). r && pairwise related (map f az) bs) (sym (ap (λ (z : X). related (f z) y) here ∙ ap (related (f a)) there) ∙ e)
  one_apart (a ∷ az) (b ∷ bs) (suc i) x y low high here there e = or_false (related (f a) b) (pairwise related (map f az) bs) (one_apart az bs i x y (omega (arith, low)) (omega (arith, high)) here there e)

  -- one part more
  one_more : (xs : List X) (ys : List B) (i : ℕ) (x : X) (y : B) → i < length xs → i < length ys → x ≡ slice_index_or xs i x → y ≡ slice_index_or ys i y → related (f x) y ≡ true → pairwise related (take i (map f xs)) (take i ys) ≡ true → pairwise related (take (suc i) (map f xs)) (take (suc i) ys) ≡ true
  one_more [] ys i x y low high here there e so = absurd (omega (arith, low))
  one_more (a ∷ az) [] i x y low high here there e so = absurd (omega (arith, high))
  one_more (a ∷ az) (b ∷ bs) zero x y low high here there e so = ap (λ (r : Bool). r && true) (sym (ap (λ (z : X). related (f z) y) here ∙ ap (related (f a)) there) ∙ e)
  one_more (a ∷ az) (b ∷ bs) (suc i) x y low high here there e so = both (related (f a) b) (pairwise related (take i (map f az)) (take i bs)) (pairwise related (take (suc i) (map f az)) (take (suc i) bs)) so (one_more az bs i x y (omega (arith, low)) (omega (arith, high)) here there e) where
    both : (x y z : Bool) → (x && y) ≡ true → (y ≡ true → z ≡ true) → (x && z) ≡ true
    both true y z s f = f s
    both false y z s f = s

  pub one_next : (xs : List X) (ys : List B) (i : ℕ) (x : X) (y : B) → i < length xs → i < length ys → x ≡ slice_index_or xs i x → y ≡ slice_index_or ys i y → related (f x) y ≡ true → pairwise related (take i (map f xs)) (take i ys) ≡ true → pairwise related (take (i + 1) (map f xs)) (take (i + 1) ys) ≡ true
  one_next xs ys i x y low high here there e so = subst (λ (n : ℕ). pairwise related (take n (map f xs)) (take n ys) ≡ true) (one i) (one_more xs ys i x y low high here there e so) where
    one : (i : ℕ) → suc i ≡ i + 1
    one i = omega arith

pub same_code : (c d : ℕ) (r : Bool) → c ≡ d → r ≡ ((c == d) && r)
same_code c d r e = grind (arith, e)

pub other_code : (c d : ℕ) (r : Bool) → (c ≡ d → ⊥) → (c == d) ≡ ((c == d) && r)
other_code c d r n = grind (arith, n)

pub ap2 : {A B C : Type 0} (f : A → B → C) {a b : A} {c d : B} → a ≡ b → c ≡ d → f a c ≡ f b d
ap2 {A} {B} f {a} {b} {c} {d} p q = ap (λ (x : A). f x c) p ∙ ap (f b) q

pub not_key : (k v : Bool) → not k ≡ true → (k && v) ≡ false
not_key true v e = absurd (true≢false (sym e))
not_key false v e = refl

pub not_value : (k v : Bool) → v ≡ false → (k && v) ≡ false
not_value k v e = or_false k v e

pub key_and_value : (k v : Bool) → not k ≡ false → v ≡ true → (k && v) ≡ true
key_and_value true v e f = f
key_and_value false v e f = absurd (true≢false e)
