-- The lists of sessions stay apart.
use Rattle.std.proofs.Common.{◌≡◌, ◌≢◌, ℕ, ◌+◌, ◌<◌, ◌≤◌, ◌==◌, ◌||◌, Bool, true, false, if◌then◌else◌, List, [], ◌∷◌, ◌++◌, Option, None, Some, refl, sym, ap, subst, ◌∙◌, arith}
use Rattle.std.proofs.lemmas.Bool.{eqb-true, true≢false}
use Rattle.std.proofs.lemmas.Bool.Decides.{nat_tests}
use Rattle.std.proofs.lemmas.Option.{none-some}
use Rattle.held_copies.specs.Lanes.{has, Distinct, Apart}

pub same : (n : ℕ) → (n == n) ≡ true
same n = grind (arith, nat_tests)

pub differ : (a b : ℕ) → (a == b) ≡ false → a ≢ b
differ a b e = grind (arith, nat_tests, e)

pub apart : (a b : ℕ) → a ≢ b → (a == b) ≡ false
apart a b d = grind (arith, nat_tests, d)

pub is_false : (b : Bool) → (b ≡ true → ⊥) → b ≡ false
is_false true f = absurd (f refl)
is_false false f = refl

pub some_is : {A : Type 0} (x y : A) → ◌≡◌ {A = Option A} (Some x) (Some y) → x ≡ y
some_is {A} x y e = ap (λ (o : Option A). elim o [ None ↦ x | Some z ↦ z ]) e

or_true : (b c : Bool) → c ≡ true → (b || c) ≡ true
or_true true c e = refl
or_true false c e = e

has_last : (l : ℕ) (xs : List ℕ) → has l (xs ++ l ∷ []) ≡ true
has_last l [] = ap (λ (b : Bool). b || false) (same l)
has_last l (x ∷ xs) = or_true (x == l) (has l (xs ++ l ∷ [])) (has_last l xs)

has_left : (k l : ℕ) (xs : List ℕ) → has k xs ≡ true → has k (xs ++ l ∷ []) ≡ true
has_left k l [] h = absurd (true≢false (sym h))
has_left k l (x ∷ xs) h = go (x == k) refl (has_left k l xs) where
  go : (b : Bool) → (x == k) ≡ b → (has k xs ≡ true → has k (xs ++ l ∷ []) ≡ true) → (b || has k (xs ++ l ∷ [])) ≡ true
  go true e ih = refl
  go false e ih = ih (sym (ap (λ (b : Bool). b || has k xs) e) ∙ h)

has_from : (k l : ℕ) (xs : List ℕ) → k ≢ l → has k (xs ++ l ∷ []) ≡ true → has k xs ≡ true
has_from k l [] d h = absurd (true≢false (sym h ∙ ap (λ (b : Bool). b || false) (apart l k (λ e. d (sym e)))))
has_from k l (x ∷ xs) d h = go (x == k) refl (has_from k l xs d) where
  go : (b : Bool) → (x == k) ≡ b → (has k (xs ++ l ∷ []) ≡ true → has k xs ≡ true) → (b || has k xs) ≡ true
  go true e ih = refl
  go false e ih = ih (sym (ap (λ (b : Bool). b || has k (xs ++ l ∷ [])) e) ∙ h)

or_parts : (a b : Bool) → (a || b) ≡ false → (a ≡ false) × (b ≡ false)
or_parts true b e = absurd (true≢false e)
or_parts false b e = (refl, e)

distinct_less : (l : ℕ) (xs : List ℕ) → Distinct (xs ++ l ∷ []) → Distinct xs × (has l xs ≡ false)
distinct_less l [] d = (tt, refl)
distinct_less l (x ∷ xs) d =
    let ih = distinct_less l xs d.1 in (
      (is_false (has x xs) (λ h. true≢false (sym (has_left x l xs h) ∙ d.0)), ih.0),
      is_false (has l (x ∷ xs)) (λ h. go (x == l) refl ih.1 h),
    ) where
      go : (b : Bool) → (x == l) ≡ b → has l xs ≡ false → (b || has l xs) ≡ true → ⊥
      go true e n h = true≢false (sym (has_last x xs) ∙ (ap (λ (k : ℕ). has x (xs ++ k ∷ [])) (eqb-true x l e) ∙ d.0))
      go false e n h = true≢false (sym h ∙ n)

distinct_more : (l : ℕ) (xs : List ℕ) → Distinct xs → has l xs ≡ false → Distinct (xs ++ l ∷ [])
distinct_more l [] d n = (refl, tt)
distinct_more l (x ∷ xs) d n =
    let p = or_parts (x == l) (has l xs) n in
    (is_false (has x (xs ++ l ∷ [])) (λ h. true≢false (sym (has_from x l xs (differ x l p.0) h) ∙ d.0)), distinct_more l xs d.1 p.1)

module _ (of of2 : ℕ → Option ℕ) (s l : ℕ) (others : (t : ℕ) → (t == s) ≡ false → of2 t ≡ of t) where
  pub take_apart : (xs : List ℕ) (count : ℕ) → Apart of (xs ++ l ∷ []) count → of s ≡ None → of2 s ≡ Some l → Apart of2 xs count
  take_apart xs count a new is = record {
    own = λ t u k p q. own_go t u k p q (t == s) refl (u == s) refl;
    above = λ t k p. go (λ k. k ≢ 0) t k p (t == s) refl (a.free_above l (has_last l xs)) (λ q. a.above t k q);
    below = λ t k p. go (λ k. k < count) t k p (t == s) refl (a.free_below l (has_last l xs)) (λ q. a.below t k q);
    taken = λ t k p. go (λ k. has k xs ≡ false) t k p (t == s) refl (distinct_less l xs a.distinct).1 (λ q. is_false (has k xs) (λ h. true≢false (sym (has_left k l xs h) ∙ a.taken t k q)));
    free_above = λ k h. a.free_above k (has_left k l xs h);
    free_below = λ k h. a.free_below k (has_left k l xs h);
    distinct = (distinct_less l xs a.distinct).0;
    some = a.some;
  } where
    go : (P : ℕ → Type 0) (t k : ℕ) → of2 t ≡ Some k → (b : Bool) → (t == s) ≡ b → P l → (of t ≡ Some k → P k) → P k
    go P t k p true e here there = subst P (some_is l k (sym is ∙ (ap of2 (sym (eqb-true t s e)) ∙ p))) here
    go P t k p false e here there = there (sym (others t e) ∙ p)

    fresh : (t k : ℕ) → of t ≡ Some k → k ≡ l → ⊥
    fresh t k q e = true≢false (sym (has_last l xs) ∙ (ap (λ (j : ℕ). has j (xs ++ l ∷ [])) (sym e) ∙ a.taken t k q))

    own_go : (t u k : ℕ) → of2 t ≡ Some k → of2 u ≡ Some k → (b : Bool) → (t == s) ≡ b → (c : Bool) → (u == s) ≡ c → t ≡ u
    own_go t u k p q true e true f = eqb-true t s e ∙ sym (eqb-true u s f)
    own_go t u k p q true e false f = absurd (fresh u k (sym (others u f) ∙ q) (sym (some_is l k (sym is ∙ (ap of2 (sym (eqb-true t s e)) ∙ p)))))
    own_go t u k p q false e true f = absurd (fresh t k (sym (others t e) ∙ p) (sym (some_is l k (sym is ∙ (ap of2 (sym (eqb-true u s f)) ∙ q)))))
    own_go t u k p q false e false f = a.own t u k (sym (others t e) ∙ p) (sym (others u f) ∙ q)

  pub give_apart : (xs : List ℕ) (count : ℕ) → Apart of xs count → of s ≡ Some l → of2 s ≡ None → Apart of2 (xs ++ l ∷ []) count
  give_apart xs count a was gone = record {
    own = λ t u k p q. a.own t u k (old t k p) (old u k q);
    above = λ t k p. a.above t k (old t k p);
    below = λ t k p. a.below t k (old t k p);
    taken = λ t k p. is_false (has k (xs ++ l ∷ [])) (λ h. true≢false (sym (has_from k l xs (apart_from t k p) h) ∙ a.taken t k (old t k p)));
    free_above = λ k h. back (λ k. k ≢ 0) k h (a.above s l was) (λ g. a.free_above k g);
    free_below = λ k h. back (λ k. k < count) k h (a.below s l was) (λ g. a.free_below k g);
    distinct = distinct_more l xs a.distinct (a.taken s l was);
    some = a.some;
  } where
    not_s : (t k : ℕ) → of2 t ≡ Some k → (t == s) ≡ false
    not_s t k p = is_false (t == s) (λ e. none-some k (sym gone ∙ (ap of2 (sym (eqb-true t s e)) ∙ p)))

    old : (t k : ℕ) → of2 t ≡ Some k → of t ≡ Some k
    old t k p = sym (others t (not_s t k p)) ∙ p

    apart_from : (t k : ℕ) → of2 t ≡ Some k → k ≢ l
    apart_from t k p e = differ t s (not_s t k p) (a.own t s k (old t k p) (was ∙ ap (λ (j : ℕ). Some j) (sym e)))

    back : (P : ℕ → Type 0) (k : ℕ) → has k (xs ++ l ∷ []) ≡ true → P l → (has k xs ≡ true → P k) → P k
    back P k h here there = go (k == l) refl where
      go : (b : Bool) → (k == l) ≡ b → P k
      go true e = subst P (sym (eqb-true k l e)) here
      go false e = there (has_from k l xs (differ k l e) h)

pub same_apart : (of of2 : ℕ → Option ℕ) → ((t : ℕ) → of2 t ≡ of t) → (xs : List ℕ) (count : ℕ) → Apart of xs count → Apart of2 xs count
same_apart of of2 f xs count a = record {
  own = λ t u k p q. a.own t u k (sym (f t) ∙ p) (sym (f u) ∙ q);
  above = λ t k p. a.above t k (sym (f t) ∙ p);
  below = λ t k p. a.below t k (sym (f t) ∙ p);
  taken = λ t k p. a.taken t k (sym (f t) ∙ p);
  free_above = a.free_above;
  free_below = a.free_below;
  distinct = a.distinct;
  some = a.some;
}

-- with the next list
pub push_apart : (of : ℕ → Option ℕ) (xs : List ℕ) (count : ℕ) → Apart of xs count → Apart of (xs ++ count ∷ []) (count + 1)
push_apart of xs count a = record {
  own = a.own;
  above = a.above;
  below = λ t k p. omega (arith, a.below t k p);
  taken = λ t k p. is_false (has k (xs ++ count ∷ [])) (λ h. true≢false (sym (has_from k count xs (λ e. omega (arith, a.below t k p, e)) h) ∙ a.taken t k p));
  free_above = λ k h. back (λ k. k ≢ 0) k h (λ e. omega (arith, a.some, e)) (λ g. a.free_above k g);
  free_below = λ k h. back (λ k. k < count + 1) k h (omega arith) (λ g. omega (arith, a.free_below k g));
  distinct = distinct_more count xs a.distinct (is_false (has count xs) (λ h. omega (arith, a.free_below count h)));
  some = omega (arith, a.some);
} where
  back : (P : ℕ → Type 0) (k : ℕ) → has k (xs ++ count ∷ []) ≡ true → P count → (has k xs ≡ true → P k) → P k
  back P k h here there = go (k == count) refl where
    go : (b : Bool) → (k == count) ≡ b → P k
    go true e = subst P (sym (eqb-true k count e)) here
    go false e = there (has_from k count xs (differ k count e) h)

-- what a list that is free is not
pub free_fresh : (of : ℕ → Option ℕ) (xs : List ℕ) (count l : ℕ) → Apart of (xs ++ l ∷ []) count → (t : ℕ) → of t ≡ Some l → ⊥
free_fresh of xs count l a t q = true≢false (sym (has_last l xs) ∙ a.taken t l q)

pub free_above : (of : ℕ → Option ℕ) (xs : List ℕ) (count l : ℕ) → Apart of (xs ++ l ∷ []) count → l ≢ 0
free_above of xs count l a = a.free_above l (has_last l xs)

pub free_below : (of : ℕ → Option ℕ) (xs : List ℕ) (count l : ℕ) → Apart of (xs ++ l ∷ []) count → l < count
free_below of xs count l a = a.free_below l (has_last l xs)

-- a key more at most
pub one_more : (b : Bool) (m n : ℕ) → m ≡ n + (if b then 0 else 1) → m ≤ n + 1
one_more true m n e = omega (arith, e)
one_more false m n e = omega (arith, e)
