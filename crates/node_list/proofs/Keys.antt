-- Lists of keys: what stands in them after a key is taken out or put in.
use Rattle.std.proofs.Common.{◌≡◌, ◌≢◌, ℕ, zero, suc, ◌+◌, ◌<◌, ◌≤◌, ◌==◌, ◌||◌, Bool, true, false, if◌then◌else◌, List, [], ◌∷◌, ◌++◌, length, Option, None, Some, sym, ap, ◌∙◌, subst, refl, arith}
use Rattle.std.proofs.lemmas.Bool.{eqb-true, true≢false}
use Rattle.std.proofs.lemmas.Bool.Decides.{nat_tests}
use Rattle.node_list.specs.Keys.{has, Distinct, without, put_before}

pub same : (n : ℕ) → (n == n) ≡ true
same n = grind (arith, nat_tests)

pub apart : (a b : ℕ) → a ≢ b → (a == b) ≡ false
apart a b d = grind (arith, nat_tests, d)

pub differ : (a b : ℕ) → (a == b) ≡ false → a ≢ b
differ a b e = grind (arith, nat_tests, e)

-- ---- what stands in a list

pub here : (k : ℕ) (keys : List ℕ) → has k (k ∷ keys) ≡ true
here k keys = ap (λ (b : Bool). b || has k keys) (same k)

or_there : (a b : Bool) → b ≡ true → (a || b) ≡ true
or_there true b e = refl
or_there false b e = e

pub there : (j k : ℕ) (keys : List ℕ) → has j keys ≡ true → has j (k ∷ keys) ≡ true
there j k keys e = or_there (k == j) (has j keys) e

-- a key that stands in it and one that doesn't are two
pub other : (j k : ℕ) (keys : List ℕ) → has j keys ≡ true → has k keys ≡ false → j ≢ k
other j k keys e n is = true≢false (sym e ∙ (ap (λ (i : ℕ). has i keys) is ∙ n))

pub behind : (j k : ℕ) (keys : List ℕ) → (k == j) ≡ false → has j (k ∷ keys) ≡ true → has j keys ≡ true
behind j k keys n e = sym (ap (λ (b : Bool). b || has j keys) n) ∙ e

or_none : (a b : Bool) → (a || b) ≡ false → (a ≡ false) × (b ≡ false)
or_none true b e = absurd (true≢false e)
or_none false b e = (refl, e)

pub absent : (j k : ℕ) (keys : List ℕ) → has j (k ∷ keys) ≡ false → (k ≢ j) × (has j keys ≡ false)
absent j k keys e = let h = or_none (k == j) (has j keys) e in (differ k j h.0, h.1)

-- ---- a key taken out

without_go : (key k : ℕ) (keys : List ℕ) (b : Bool) → (k == key) ≡ b → without key keys ≡ keys → has key (k ∷ keys) ≡ false → (if b then without key keys else k ∷ without key keys) ≡ k ∷ keys
without_go key k keys true e ih n = absurd (true≢false (sym (or_there_first (k == key) (has key keys) e) ∙ n)) where
  or_there_first : (a b : Bool) → a ≡ true → (a || b) ≡ true
  or_there_first true b e = refl
  or_there_first false b e = absurd (true≢false (sym e))
without_go key k keys false e ih n = ap (λ (ks : List ℕ). k ∷ ks) ih

pub without_absent : (key : ℕ) (keys : List ℕ) → has key keys ≡ false → without key keys ≡ keys
without_absent key [] n = refl
without_absent key (k ∷ keys) n = without_go key k keys (k == key) refl (without_absent key keys (absent key k keys n).1) n

has_without_go : (j key k : ℕ) (keys : List ℕ) (b : Bool) → (k == key) ≡ b → (j ≢ key → has j (without key keys) ≡ has j keys) → j ≢ key → has j (if b then without key keys else k ∷ without key keys) ≡ has j (k ∷ keys)
has_without_go j key k keys true e ih d = ih d ∙ sym (ap (λ (b : Bool). b || has j keys) (apart k j (λ i. d (sym i ∙ eqb-true k key e))))
has_without_go j key k keys false e ih d = ap (λ (b : Bool). (k == j) || b) (ih d)

pub has_without : (j key : ℕ) (keys : List ℕ) → j ≢ key → has j (without key keys) ≡ has j keys
has_without j key [] d = refl
has_without j key (k ∷ keys) d = has_without_go j key k keys (k == key) refl (has_without j key keys) d

out_go : (key k : ℕ) (keys : List ℕ) (b : Bool) → (k == key) ≡ b → has key (without key keys) ≡ false → has key (if b then without key keys else k ∷ without key keys) ≡ false
out_go key k keys true e ih = ih
out_go key k keys false e ih = ap (λ (b : Bool). b || has key (without key keys)) e ∙ ih

pub has_out : (key : ℕ) (keys : List ℕ) → has key (without key keys) ≡ false
has_out key [] = refl
has_out key (k ∷ keys) = out_go key k keys (k == key) refl (has_out key keys)

has_bool : (a b : Bool) → (a ≡ true → b ≡ true) → b ≡ false → a ≡ false
has_bool true b f e = absurd (true≢false (sym (f refl) ∙ e))
has_bool false b f e = refl

-- what stands in it without a key stood in it
from_without_go : (j key : ℕ) (keys : List ℕ) (b : Bool) → (j == key) ≡ b → has j (without key keys) ≡ true → has j keys ≡ true
from_without_go j key keys true e h = absurd (true≢false (sym h ∙ (ap (λ (i : ℕ). has i (without key keys)) (eqb-true j key e) ∙ has_out key keys)))
from_without_go j key keys false e h = sym (has_without j key keys (differ j key e)) ∙ h

pub from_without : (j key : ℕ) (keys : List ℕ) → has j (without key keys) ≡ true → has j keys ≡ true
from_without j key keys h = from_without_go j key keys (j == key) refl h

distinct_go : (key k : ℕ) (keys : List ℕ) (b : Bool) → has k keys ≡ false → Distinct (without key keys) → Distinct (if b then without key keys else k ∷ without key keys)
distinct_go key k keys true n d = d
distinct_go key k keys false n d = (has_bool (has k (without key keys)) (has k keys) (from_without k key keys) n, d)

pub distinct_without : (key : ℕ) (keys : List ℕ) → Distinct keys → Distinct (without key keys)
distinct_without key [] d = tt
distinct_without key (k ∷ keys) d = distinct_go key k keys (k == key) d.0 (distinct_without key keys d.1)

-- ---- so many different keys below n are n at most

length_go : (key k : ℕ) (keys : List ℕ) (b : Bool) → (k == key) ≡ b → has k keys ≡ false → length keys ≤ length (without key keys) + 1 → length (k ∷ keys) ≤ length (if b then without key keys else k ∷ without key keys) + 1
length_go key k keys true e n le =
    let stay = without_absent key keys (subst (λ (i : ℕ). has i keys ≡ false) (eqb-true k key e) n) in
    omega (arith, ap length stay)
length_go key k keys false e n le = omega (arith, le)

length_without : (key : ℕ) (keys : List ℕ) → Distinct keys → length keys ≤ length (without key keys) + 1
length_without key [] d = omega arith
length_without key (k ∷ keys) d = length_go key k keys (k == key) refl d.0 (length_without key keys d.1)

pub few : (n : ℕ) (keys : List ℕ) → Distinct keys → ((k : ℕ) → has k keys ≡ true → k < n) → length keys ≤ n
few zero [] d below = omega arith
few zero (k ∷ keys) d below = absurd (omega (arith, below k (here k keys)))
few (suc n) keys d below =
    let less = few n (without n keys) (distinct_without n keys d) (λ k h. omega (arith, below k (from_without k n keys h), other k n (without n keys) h (has_out n keys))) in
    omega (arith, less, length_without n keys d)

-- ---- a key put in

abbrev pub put_at : Option ℕ → ℕ → List ℕ → List ℕ
put_at None key keys = keys ++ key ∷ []
put_at (Some other) key keys = put_before other key keys

-- a spot of the list, or its end
abbrev pub is_spot : Option ℕ → List ℕ → Bool
is_spot None keys = true
is_spot (Some k) keys = has k keys

in_last : (key : ℕ) (keys : List ℕ) → has key (keys ++ key ∷ []) ≡ true
in_last key [] = here key []
in_last key (k ∷ keys) = there key k (keys ++ key ∷ []) (in_last key keys)

in_before_go : (o key k : ℕ) (keys : List ℕ) (b : Bool) → (k == o) ≡ b → (has o keys ≡ true → has key (put_before o key keys) ≡ true) → has o (k ∷ keys) ≡ true → has key (if b then key ∷ k ∷ keys else k ∷ put_before o key keys) ≡ true
in_before_go o key k keys true e ih h = here key (k ∷ keys)
in_before_go o key k keys false e ih h = there key k (put_before o key keys) (ih (behind o k keys e h))

in_before : (o key : ℕ) (keys : List ℕ) → has o keys ≡ true → has key (put_before o key keys) ≡ true
in_before o key [] h = h
in_before o key (k ∷ keys) h = in_before_go o key k keys (k == o) refl (in_before o key keys) h

pub in_put : (spot : Option ℕ) (key : ℕ) (keys : List ℕ) → is_spot spot keys ≡ true → has key (put_at spot key keys) ≡ true
in_put None key keys h = in_last key keys
in_put (Some o) key keys h = in_before o key keys h

has_last : (key j : ℕ) (keys : List ℕ) → j ≢ key → has j (keys ++ key ∷ []) ≡ has j keys
has_last key j [] d = ap (λ (b : Bool). b || false) (apart key j (λ e. d (sym e)))
has_last key j (k ∷ keys) d = ap (λ (b : Bool). (k == j) || b) (has_last key j keys d)

has_before_go : (o key j k : ℕ) (keys : List ℕ) (b : Bool) → j ≢ key → has j (put_before o key keys) ≡ has j keys → has j (if b then key ∷ k ∷ keys else k ∷ put_before o key keys) ≡ has j (k ∷ keys)
has_before_go o key j k keys true d ih = ap (λ (b : Bool). b || has j (k ∷ keys)) (apart key j (λ e. d (sym e)))
has_before_go o key j k keys false d ih = ap (λ (b : Bool). (k == j) || b) ih

has_before : (o key j : ℕ) (keys : List ℕ) → j ≢ key → has j (put_before o key keys) ≡ has j keys
has_before o key j [] d = refl
has_before o key j (k ∷ keys) d = has_before_go o key j k keys (k == o) d (has_before o key j keys d)

pub has_put : (spot : Option ℕ) (key j : ℕ) (keys : List ℕ) → j ≢ key → has j (put_at spot key keys) ≡ has j keys
has_put None key j keys d = has_last key j keys d
has_put (Some o) key j keys d = has_before o key j keys d

distinct_last : (key : ℕ) (keys : List ℕ) → has key keys ≡ false → Distinct keys → Distinct (keys ++ key ∷ [])
distinct_last key [] n d = (refl, tt)
distinct_last key (k ∷ keys) n d =
    let a = absent key k keys n in
    (has_last key k keys a.0 ∙ d.0, distinct_last key keys a.1 d.1)

distinct_before_go : (o key k : ℕ) (keys : List ℕ) (b : Bool) → has key (k ∷ keys) ≡ false → Distinct (k ∷ keys) → Distinct (put_before o key keys) → Distinct (if b then key ∷ k ∷ keys else k ∷ put_before o key keys)
distinct_before_go o key k keys true n d ih = (n, d)
distinct_before_go o key k keys false n d ih = (has_before o key k keys (absent key k keys n).0 ∙ d.0, ih)

distinct_before : (o key : ℕ) (keys : List ℕ) → has key keys ≡ false → Distinct keys → Distinct (put_before o key keys)
distinct_before o key [] n d = tt
distinct_before o key (k ∷ keys) n d = distinct_before_go o key k keys (k == o) n d (distinct_before o key keys (absent key k keys n).1 d.1)

pub distinct_put : (spot : Option ℕ) (key : ℕ) (keys : List ℕ) → has key keys ≡ false → Distinct keys → Distinct (put_at spot key keys)
distinct_put None key keys n d = distinct_last key keys n d
distinct_put (Some o) key keys n d = distinct_before o key keys n d

before_absent_go : (o key k : ℕ) (keys : List ℕ) (b : Bool) → (k == o) ≡ b → has o (k ∷ keys) ≡ false → put_before o key keys ≡ keys → (if b then key ∷ k ∷ keys else k ∷ put_before o key keys) ≡ k ∷ keys
before_absent_go o key k keys true e n ih = absurd ((absent o k keys n).0 (eqb-true k o e))
before_absent_go o key k keys false e n ih = ap (λ (ks : List ℕ). k ∷ ks) ih

-- nothing is put before a key that isn't there
pub before_absent : (o key : ℕ) (keys : List ℕ) → has o keys ≡ false → put_before o key keys ≡ keys
before_absent o key [] n = refl
before_absent o key (k ∷ keys) n = before_absent_go o key k keys (k == o) refl n (before_absent o key keys (absent o k keys n).1)
