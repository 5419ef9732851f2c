-- Where a number stands in a list that a tree spells.
use Rattle.std.proofs.Common.{◌≡◌, ◌≢◌, ℕ, ◌<◌, ◌≤◌, ◌==◌, ◌||◌, Bool, true, false, if◌then◌else◌, List, [], ◌∷◌, ◌++◌, Option, None, Some, refl, sym, ap, subst, inl, inr, ◌∙◌, append_assoc, arith}
use Rattle.std.specs.Prelude.{nat_lt}
use Rattle.std.proofs.lemmas.Bool.{lt-ltb, ltb-true, ne_eqb, eq-eqb, true≢false, cases_lt}
use Rattle.std.proofs.lemmas.List.{append-nil}
use Rattle.std.proofs.lemmas.Option.{none-some}
use Rattle.number_tree.specs.Numbers.{Each, Rising, has, below, from, with_number, without, first_of, first_above}

above : (a b : ℕ) → a ≤ b → b ≢ a → a < b
above a b le d = elim (cases_lt a b) [
  | inl lt ↦ lt
  | inr ge ↦ absurd (d (omega (arith, le, ge)))
]

each_left : (P : ℕ → Type 0) (xs ys : List ℕ) → Each P (xs ++ ys) → Each P xs
each_left P [] ys e = tt
each_left P (x ∷ xs) ys e = (e.0, each_left P xs ys e.1)

each_right : (P : ℕ → Type 0) (xs ys : List ℕ) → Each P (xs ++ ys) → Each P ys
each_right P [] ys e = e
each_right P (x ∷ xs) ys e = each_right P xs ys e.1

each_mono : (P Q : ℕ → Type 0) (xs : List ℕ) → ((x : ℕ) → P x → Q x) → Each P xs → Each Q xs
each_mono P Q [] f e = tt
each_mono P Q (x ∷ xs) f e = (f x e.0, each_mono P Q xs f e.1)

pub rising_left : (xs : List ℕ) (n : ℕ) (ys : List ℕ) → Rising (xs ++ n ∷ ys) → Rising xs
rising_left [] n ys r = tt
rising_left (x ∷ xs) n ys r = (each_left (λ m. x < m) xs (n ∷ ys) r.0, rising_left xs n ys r.1)

pub rising_right : (xs : List ℕ) (n : ℕ) (ys : List ℕ) → Rising (xs ++ n ∷ ys) → Rising ys
rising_right [] n ys r = r.1
rising_right (x ∷ xs) n ys r = rising_right xs n ys r.1

each_low : (xs : List ℕ) (n : ℕ) (ys : List ℕ) → Rising (xs ++ n ∷ ys) → Each (λ m. m < n) xs
each_low [] n ys r = tt
each_low (x ∷ xs) n ys r = ((each_right (λ m. x < m) xs (n ∷ ys) r.0).0, each_low xs n ys r.1)

each_high : (xs : List ℕ) (n : ℕ) (ys : List ℕ) → Rising (xs ++ n ∷ ys) → Each (λ m. n < m) ys
each_high [] n ys r = r.0
each_high (x ∷ xs) n ys r = each_high xs n ys r.1

-- ---- parts of a list by a number

lt_true : (a b : ℕ) → a < b → nat_lt a b ≡ true
lt_true a b lt = lt-ltb a b lt

lt_false : (a b : ℕ) → b ≤ a → nat_lt a b ≡ false
lt_false a b le = bool_is (nat_lt a b) (λ t. omega (arith, le, ltb-true a b t)) where
  bool_is : (c : Bool) → (c ≡ true → ⊥) → c ≡ false
  bool_is true f = absurd (f refl)
  bool_is false f = refl

below_all : (number : ℕ) (xs : List ℕ) → Each (λ m. m < number) xs → below number xs ≡ xs
below_all number [] e = refl
below_all number (x ∷ xs) e = ap (λ (b : Bool). if b then x ∷ below number xs else below number xs) (lt_true x number e.0) ∙ ap (λ zs. x ∷ zs) (below_all number xs e.1)

from_none : (number : ℕ) (xs : List ℕ) → Each (λ m. m < number) xs → from number xs ≡ []
from_none number [] e = refl
from_none number (x ∷ xs) e = ap (λ (b : Bool). if b then from number xs else x ∷ from number xs) (lt_true x number e.0) ∙ from_none number xs e.1

below_none : (number : ℕ) (xs : List ℕ) → Each (λ m. number ≤ m) xs → below number xs ≡ []
below_none number [] e = refl
below_none number (x ∷ xs) e = ap (λ (b : Bool). if b then x ∷ below number xs else below number xs) (lt_false x number e.0) ∙ below_none number xs e.1

from_all : (number : ℕ) (xs : List ℕ) → Each (λ m. number ≤ m) xs → from number xs ≡ xs
from_all number [] e = refl
from_all number (x ∷ xs) e = ap (λ (b : Bool). if b then from number xs else x ∷ from number xs) (lt_false x number e.0) ∙ ap (λ zs. x ∷ zs) (from_all number xs e.1)

if_cons : (b : Bool) (x : ℕ) (xs ys : List ℕ) → (if b then x ∷ (xs ++ ys) else xs ++ ys) ≡ (if b then x ∷ xs else xs) ++ ys
if_cons true x xs ys = refl
if_cons false x xs ys = refl

if_rest : (b : Bool) (x : ℕ) (xs ys : List ℕ) → (if b then xs ++ ys else x ∷ (xs ++ ys)) ≡ (if b then xs else x ∷ xs) ++ ys
if_rest true x xs ys = refl
if_rest false x xs ys = refl

below_append : (number : ℕ) (xs ys : List ℕ) → below number (xs ++ ys) ≡ below number xs ++ below number ys
below_append number [] ys = refl
below_append number (x ∷ xs) ys =
    ap (λ zs. if nat_lt x number then x ∷ zs else zs) (below_append number xs ys) ∙ if_cons (nat_lt x number) x (below number xs) (below number ys)

from_append : (number : ℕ) (xs ys : List ℕ) → from number (xs ++ ys) ≡ from number xs ++ from number ys
from_append number [] ys = refl
from_append number (x ∷ xs) ys =
    ap (λ zs. if nat_lt x number then zs else x ∷ zs) (from_append number xs ys) ∙ if_rest (nat_lt x number) x (from number xs) (from number ys)

-- the node is below the number
module _ (number : ℕ) (xs : List ℕ) (n : ℕ) (ys : List ℕ) (r : Rising (xs ++ n ∷ ys)) (lt : n < number) where
  pub below_right : below number (xs ++ n ∷ ys) ≡ xs ++ n ∷ below number ys
  below_right =
      below_append number xs (n ∷ ys)
      ∙ (ap (λ zs. zs ++ below number (n ∷ ys)) (below_all number xs (each_mono (λ m. m < n) (λ m. m < number) xs (λ x l. omega (arith, l, lt)) (each_low xs n ys r)))
      ∙ ap (λ (b : Bool). xs ++ (if b then n ∷ below number ys else below number ys)) (lt_true n number lt))

  pub from_right : from number (xs ++ n ∷ ys) ≡ from number ys
  from_right =
      from_append number xs (n ∷ ys)
      ∙ (ap (λ zs. zs ++ from number (n ∷ ys)) (from_none number xs (each_mono (λ m. m < n) (λ m. m < number) xs (λ x l. omega (arith, l, lt)) (each_low xs n ys r)))
      ∙ ap (λ (b : Bool). if b then from number ys else n ∷ from number ys) (lt_true n number lt))

-- the node is the number or above it
module _ (number : ℕ) (xs : List ℕ) (n : ℕ) (ys : List ℕ) (r : Rising (xs ++ n ∷ ys)) (le : number ≤ n) where
  high_all : Each (λ m. number ≤ m) ys
  high_all = each_mono (λ m. n < m) (λ m. number ≤ m) ys (λ x l. omega (arith, l, le)) (each_high xs n ys r)

  pub below_left : below number (xs ++ n ∷ ys) ≡ below number xs
  below_left =
      below_append number xs (n ∷ ys)
      ∙ (ap (λ (b : Bool). below number xs ++ (if b then n ∷ below number ys else below number ys)) (lt_false n number le)
      ∙ (ap (λ zs. below number xs ++ zs) (below_none number ys high_all) ∙ append-nil (below number xs)))

  pub from_left : from number (xs ++ n ∷ ys) ≡ from number xs ++ n ∷ ys
  from_left =
      from_append number xs (n ∷ ys)
      ∙ (ap (λ (b : Bool). from number xs ++ (if b then from number ys else n ∷ from number ys)) (lt_false n number le)
      ∙ ap (λ zs. from number xs ++ n ∷ zs) (from_all number ys high_all))

-- ---- a number put in

module _ (number : ℕ) (xs : List ℕ) (n : ℕ) (ys : List ℕ) (r : Rising (xs ++ n ∷ ys)) where
  pub put_right : n < number → xs ++ n ∷ with_number number ys ≡ with_number number (xs ++ n ∷ ys)
  put_right lt =
      sym (append_assoc xs (n ∷ below number ys) (number ∷ from number ys))
      ∙ (ap (λ zs. zs ++ number ∷ from number ys) (sym (below_right number xs n ys r lt)) ∙ ap (λ zs. below number (xs ++ n ∷ ys) ++ number ∷ zs) (sym (from_right number xs n ys r lt)))

  pub put_left : number ≤ n → with_number number xs ++ n ∷ ys ≡ with_number number (xs ++ n ∷ ys)
  put_left le =
      append_assoc (below number xs) (number ∷ from number xs) (n ∷ ys)
      ∙ (ap (λ zs. zs ++ number ∷ (from number xs ++ n ∷ ys)) (sym (below_left number xs n ys r le)) ∙ ap (λ zs. below number (xs ++ n ∷ ys) ++ number ∷ zs) (sym (from_left number xs n ys r le)))

-- ---- a number taken out

eq_false : (a b : ℕ) → a ≢ b → (a == b) ≡ false
eq_false a b d = ne_eqb a b d

other : (number : ℕ) (xs : List ℕ) → Each (λ m. m ≢ number) xs → without number xs ≡ xs
other number [] e = refl
other number (x ∷ xs) e = ap (λ (b : Bool). if b then without number xs else x ∷ without number xs) (eq_false x number e.0) ∙ ap (λ zs. x ∷ zs) (other number xs e.1)

hasnt : (number : ℕ) (xs : List ℕ) → Each (λ m. m ≢ number) xs → has number xs ≡ false
hasnt number [] e = refl
hasnt number (x ∷ xs) e = ap (λ (b : Bool). b || has number xs) (eq_false x number e.0) ∙ hasnt number xs e.1

without_append : (number : ℕ) (xs ys : List ℕ) → without number (xs ++ ys) ≡ without number xs ++ without number ys
without_append number [] ys = refl
without_append number (x ∷ xs) ys =
    ap (λ zs. if x == number then zs else x ∷ zs) (without_append number xs ys) ∙ if_rest (x == number) x (without number xs) (without number ys)

or_assoc : (a b c : Bool) → (a || (b || c)) ≡ ((a || b) || c)
or_assoc true b c = refl
or_assoc false b c = refl

has_append : (number : ℕ) (xs ys : List ℕ) → has number (xs ++ ys) ≡ (has number xs || has number ys)
has_append number [] ys = refl
has_append number (x ∷ xs) ys = ap (λ (b : Bool). x == number || b) (has_append number xs ys) ∙ or_assoc (x == number) (has number xs) (has number ys)

or_false : (a : Bool) → (a || false) ≡ a
or_false true = refl
or_false false = refl

module _ (number : ℕ) (xs : List ℕ) (n : ℕ) (ys : List ℕ) (r : Rising (xs ++ n ∷ ys)) where
  low_other : n ≤ number → Each (λ m. m ≢ number) xs
  low_other le = each_mono (λ m. m < n) (λ m. m ≢ number) xs (λ x l e. omega (arith, l, le, e)) (each_low xs n ys r)

  high_other : number ≤ n → Each (λ m. m ≢ number) ys
  high_other le = each_mono (λ m. n < m) (λ m. m ≢ number) ys (λ x l e. omega (arith, l, le, e)) (each_high xs n ys r)

  pub without_right : n < number → xs ++ n ∷ without number ys ≡ without number (xs ++ n ∷ ys)
  without_right lt = sym (without_append number xs (n ∷ ys)
      ∙ (ap (λ zs. zs ++ without number (n ∷ ys)) (other number xs (low_other (omega (arith, lt))))
      ∙ ap (λ (b : Bool). xs ++ (if b then without number ys else n ∷ without number ys)) (eq_false n number (λ e. omega (arith, lt, e)))))

  pub without_left : number < n → without number xs ++ n ∷ ys ≡ without number (xs ++ n ∷ ys)
  without_left lt = sym (without_append number xs (n ∷ ys)
      ∙ (ap (λ (b : Bool). without number xs ++ (if b then without number ys else n ∷ without number ys)) (eq_false n number (λ e. omega (arith, lt, e)))
      ∙ ap (λ zs. without number xs ++ n ∷ zs) (other number ys (high_other (omega (arith, lt))))))

  pub without_here : n ≡ number → xs ++ ys ≡ without number (xs ++ n ∷ ys)
  without_here is = sym (without_append number xs (n ∷ ys)
      ∙ (ap (λ (b : Bool). without number xs ++ (if b then without number ys else n ∷ without number ys)) (eq-eqb n number is)
      ∙ (ap (λ zs. zs ++ without number ys) (other number xs (low_other (omega (arith, is)))) ∙ ap (λ zs. xs ++ zs) (other number ys (high_other (omega (arith, is)))))))

  pub has_right : n < number → has number ys ≡ has number (xs ++ n ∷ ys)
  has_right lt = sym (has_append number xs (n ∷ ys)
      ∙ (ap (λ (b : Bool). b || has number (n ∷ ys)) (hasnt number xs (low_other (omega (arith, lt)))) ∙ ap (λ (b : Bool). b || has number ys) (eq_false n number (λ e. omega (arith, lt, e)))))

  pub has_left : number < n → has number xs ≡ has number (xs ++ n ∷ ys)
  has_left lt = sym (has_append number xs (n ∷ ys)
      ∙ (ap (λ (b : Bool). has number xs || (b || has number ys)) (eq_false n number (λ e. omega (arith, lt, e)))
      ∙ (ap (λ (b : Bool). has number xs || b) (hasnt number ys (high_other (omega (arith, lt)))) ∙ or_false (has number xs))))

  pub has_here : n ≡ number → true ≡ has number (xs ++ n ∷ ys)
  has_here is = sym (has_append number xs (n ∷ ys)
      ∙ (ap (λ (b : Bool). has number xs || (b || has number ys)) (eq-eqb n number is) ∙ or_true (has number xs))) where
        or_true : (a : Bool) → (a || true) ≡ true
        or_true true = refl
        or_true false = refl

-- ---- the least above a number

abbrev or_else : Option ℕ → Option ℕ → Option ℕ
or_else None o = o
or_else (Some n) o = Some n

if_else : (b : Bool) (x : ℕ) (o p : Option ℕ) → (if b then Some x else or_else o p) ≡ or_else (if b then Some x else o) p
if_else true x o p = refl
if_else false x o p = refl

above_append : (number : ℕ) (xs ys : List ℕ) → first_above number (xs ++ ys) ≡ or_else (first_above number xs) (first_above number ys)
above_append number [] ys = refl
above_append number (x ∷ xs) ys =
    ap (λ o. if nat_lt number x then Some x else o) (above_append number xs ys) ∙ if_else (nat_lt number x) x (first_above number xs) (first_above number ys)

above_none : (number : ℕ) (xs : List ℕ) → Each (λ m. m ≤ number) xs → first_above number xs ≡ None
above_none number [] e = refl
above_none number (x ∷ xs) e = ap (λ (b : Bool). if b then Some x else first_above number xs) (lt_false number x e.0) ∙ above_none number xs e.1

module _ (number : ℕ) (xs : List ℕ) (n : ℕ) (ys : List ℕ) (r : Rising (xs ++ n ∷ ys)) where
  pub above_right : n ≤ number → first_above number ys ≡ first_above number (xs ++ n ∷ ys)
  above_right le = sym (above_append number xs (n ∷ ys)
      ∙ (ap (λ o. or_else o (first_above number (n ∷ ys))) (above_none number xs (each_mono (λ m. m < n) (λ m. m ≤ number) xs (λ x l. omega (arith, l, le)) (each_low xs n ys r)))
      ∙ ap (λ (b : Bool). if b then Some n else first_above number ys) (lt_false number n le)))

  pub above_left : number < n → or_else (first_above number xs) (Some n) ≡ first_above number (xs ++ n ∷ ys)
  above_left lt = sym (above_append number xs (n ∷ ys) ∙ ap (λ (b : Bool). or_else (first_above number xs) (if b then Some n else first_above number ys)) (lt_true number n lt))

  pub above_left_some : number < n → (m : ℕ) → first_above number xs ≡ Some m → Some m ≡ first_above number (xs ++ n ∷ ys)
  above_left_some lt m e = sym (ap (λ o. or_else o (Some n)) e) ∙ above_left lt

  pub above_left_none : number < n → first_above number xs ≡ None → Some n ≡ first_above number (xs ++ n ∷ ys)
  above_left_none lt e = sym (ap (λ o. or_else o (Some n)) e) ∙ above_left lt

-- ---- the first one

pub first_some : (xs : List ℕ) (n : ℕ) (ys : List ℕ) (m : ℕ) → first_of xs ≡ Some m → Some m ≡ first_of (xs ++ n ∷ ys)
first_some [] n ys m e = absurd (none-some m e)
first_some (x ∷ xs) n ys m e = sym e

pub first_none : (xs : List ℕ) (n : ℕ) (ys : List ℕ) → first_of xs ≡ None → Some n ≡ first_of (xs ++ n ∷ ys)
first_none [] n ys e = refl
first_none (x ∷ xs) n ys e = absurd (none-some x (sym e))

-- ---- what rises still does

each_if : (P : ℕ → Type 0) (b : Bool) (xs ys : List ℕ) → Each P xs → Each P ys → Each P (if b then xs else ys)
each_if P true xs ys e f = e
each_if P false xs ys e f = f

each_without : (P : ℕ → Type 0) (number : ℕ) (xs : List ℕ) → Each P xs → Each P (without number xs)
each_without P number [] e = tt
each_without P number (x ∷ xs) e = let f = each_without P number xs e.1 in each_if P (x == number) (without number xs) (x ∷ without number xs) f (e.0, f)

rising_if : (b : Bool) (xs ys : List ℕ) → Rising xs → Rising ys → Rising (if b then xs else ys)
rising_if true xs ys e f = e
rising_if false xs ys e f = f

pub rising_without : (number : ℕ) (xs : List ℕ) → Rising xs → Rising (without number xs)
rising_without number [] r = tt
rising_without number (x ∷ xs) r =
    let f = rising_without number xs r.1 in
    rising_if (x == number) (without number xs) (x ∷ without number xs) f (each_without (λ m. x < m) number xs r.0, f)

each_append : (P : ℕ → Type 0) (xs ys : List ℕ) → Each P xs → Each P ys → Each P (xs ++ ys)
each_append P [] ys e f = f
each_append P (x ∷ xs) ys e f = (e.0, each_append P xs ys e.1 f)

each_below : (P : ℕ → Type 0) (number : ℕ) (xs : List ℕ) → Each P xs → Each P (below number xs)
each_below P number [] e = tt
each_below P number (x ∷ xs) e = let f = each_below P number xs e.1 in each_if P (nat_lt x number) (x ∷ below number xs) (below number xs) (e.0, f) f

each_from : (P : ℕ → Type 0) (number : ℕ) (xs : List ℕ) → Each P xs → Each P (from number xs)
each_from P number [] e = tt
each_from P number (x ∷ xs) e = let f = each_from P number xs e.1 in each_if P (nat_lt x number) (from number xs) (x ∷ from number xs) f (e.0, f)

each_with : (P : ℕ → Type 0) (number : ℕ) (xs : List ℕ) → P number → Each P xs → Each P (with_number number xs)
each_with P number xs p e = each_append P (below number xs) (number ∷ from number xs) (each_below P number xs e) (p, each_from P number xs e)

or_parts : (a b : Bool) → (a || b) ≡ false → (a ≡ false) × (b ≡ false)
or_parts true b e = absurd (true≢false e)
or_parts false b e = (refl, e)

with_low : (number x : ℕ) (xs : List ℕ) → x < number → x ∷ with_number number xs ≡ with_number number (x ∷ xs)
with_low number x xs lt =
    ap (λ (b : Bool). (if b then x ∷ below number xs else below number xs) ++ number ∷ from number xs) (sym (lt_true x number lt))
    ∙ ap (λ (b : Bool). below number (x ∷ xs) ++ number ∷ (if b then from number xs else x ∷ from number xs)) (sym (lt_true x number lt))

with_high : (number x : ℕ) (xs : List ℕ) → number < x → Each (λ m. x < m) xs → number ∷ x ∷ xs ≡ with_number number (x ∷ xs)
with_high number x xs lt e =
    let all : Each (λ m. number ≤ m) (x ∷ xs) = (omega (arith, lt), each_mono (λ m. x < m) (λ m. number ≤ m) xs (λ y l. omega (arith, l, lt)) e) in
    sym (ap (λ zs. zs ++ number ∷ from number (x ∷ xs)) (below_none number (x ∷ xs) all) ∙ ap (λ zs. number ∷ zs) (from_all number (x ∷ xs) all))

pub rising_with : (number : ℕ) (xs : List ℕ) → has number xs ≡ false → Rising xs → Rising (with_number number xs)
rising_with number [] n r = (tt, tt)
rising_with number (x ∷ xs) n r =
    let p = or_parts (x == number) (has number xs) n in
    elim (cases_lt x number) [
      | inl lt ↦ subst Rising (with_low number x xs lt) (each_with (λ m. x < m) number xs lt r.0, rising_with number xs p.1 r.1)
      | inr ge ↦ high (ne_from x number p.0) ge
    ] where
      ne_from : (a b : ℕ) → (a == b) ≡ false → a ≢ b
      ne_from a b e is = true≢false (sym (eq-eqb a b is) ∙ e)

      high : x ≢ number → number ≤ x → Rising (with_number number (x ∷ xs))
      high d ge =
          let lt : number < x = above number x ge d in
          subst Rising (with_high number x xs lt r.0) ((lt, each_mono (λ m. x < m) (λ m. number < m) xs (λ y l. omega (arith, l, lt)) r.0), r)

pub ruleset places = (rising_left, rising_right, below_right, from_right, below_left, from_left)
