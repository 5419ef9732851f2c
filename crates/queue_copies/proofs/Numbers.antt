-- Rising lists of numbers.
use Rattle.std.proofs.Common.{◌≡◌, ◌≢◌, ℕ, ◌+◌, ◌<◌, ◌≤◌, ◌==◌, ◌||◌, Bool, true, false, if◌then◌else◌, List, [], ◌∷◌, ◌++◌, length, refl, sym, ap, subst, ◌∙◌, arith}
use Rattle.std.specs.Prelude.{nat_lt}
use Rattle.std.proofs.lemmas.Bool.{lt-ltb, ltb-true, eqb-true, true≢false}
use Rattle.std.proofs.lemmas.Bool.Decides.{nat_tests}
use Rattle.std.proofs.lemmas.List.{append-nil, length-append}
use Rattle.number_tree.specs.Numbers.{Each, Rising, has, below, from, with_number, without}

pub same : (n : ℕ) → (n == n) ≡ true
same n = grind (arith, nat_tests)

pub apart : (a b : ℕ) → a ≢ b → (a == b) ≡ false
apart a b d = grind (arith, nat_tests, d)

pub differ : (a b : ℕ) → (a == b) ≡ false → a ≢ b
differ a b e = grind (arith, nat_tests, e)

pub is_false : (b : Bool) → (b ≡ true → ⊥) → b ≡ false
is_false true f = absurd (f refl)
is_false false f = refl

pub each_mono : (P Q : ℕ → Type 0) (ns : List ℕ) → ((n : ℕ) → P n → Q n) → Each P ns → Each Q ns
each_mono P Q [] f e = tt
each_mono P Q (n ∷ ns) f e = (f n e.0, each_mono P Q ns f e.1)

pub each_in : (P : ℕ → Type 0) (ns : List ℕ) → ((n : ℕ) → has n ns ≡ true → P n) → Each P ns
each_in P [] f = tt
each_in P (n ∷ ns) f = (f n (here n ns), each_in P ns (λ m h. f m (there m n ns h))) where
  here : (m : ℕ) (ms : List ℕ) → has m (m ∷ ms) ≡ true
  here m ms = ap (λ (b : Bool). b || has m ms) (same m)

  or_true : (b c : Bool) → c ≡ true → (b || c) ≡ true
  or_true true c e = refl
  or_true false c e = e

  there : (m k : ℕ) (ms : List ℕ) → has m ms ≡ true → has m (k ∷ ms) ≡ true
  there m k ms e = or_true (k == m) (has m ms) e

each_left : (P : ℕ → Type 0) (xs ys : List ℕ) → Each P (xs ++ ys) → Each P xs
each_left P [] ys e = tt
each_left P (x ∷ xs) ys e = (e.0, each_left P xs ys e.1)

-- a number that is not above any is in none
pub low_out : (n : ℕ) (ns : List ℕ) → Each (λ m. m < n) ns → has n ns ≡ false
low_out n [] e = refl
low_out n (m ∷ ns) e = ap (λ (b : Bool). b || has n ns) (apart m n (λ i. omega (arith, e.0, i))) ∙ low_out n ns e.1

pub high_out : (n : ℕ) (ns : List ℕ) → Each (λ m. n < m) ns → has n ns ≡ false
high_out n [] e = refl
high_out n (m ∷ ns) e = ap (λ (b : Bool). b || has n ns) (apart m n (λ i. omega (arith, e.0, i))) ∙ high_out n ns e.1

-- ---- a number between those below it and those above it

below_low : (n : ℕ) (xs ys : List ℕ) → Each (λ m. m < n) xs → below n (xs ++ ys) ≡ xs ++ below n ys
below_low n [] ys e = refl
below_low n (x ∷ xs) ys e = ap (λ (b : Bool). if b then x ∷ below n (xs ++ ys) else below n (xs ++ ys)) (lt-ltb x n e.0) ∙ ap (λ (zs : List ℕ). x ∷ zs) (below_low n xs ys e.1)

from_low : (n : ℕ) (xs ys : List ℕ) → Each (λ m. m < n) xs → from n (xs ++ ys) ≡ from n ys
from_low n [] ys e = refl
from_low n (x ∷ xs) ys e = ap (λ (b : Bool). if b then from n (xs ++ ys) else x ∷ from n (xs ++ ys)) (lt-ltb x n e.0) ∙ from_low n xs ys e.1

not_below : (m n : ℕ) → n < m → nat_lt m n ≡ false
not_below m n lt = is_false (nat_lt m n) (λ t. omega (arith, lt, ltb-true m n t))

below_high : (n : ℕ) (ys : List ℕ) → Each (λ m. n < m) ys → below n ys ≡ []
below_high n [] e = refl
below_high n (y ∷ ys) e = ap (λ (b : Bool). if b then y ∷ below n ys else below n ys) (not_below y n e.0) ∙ below_high n ys e.1

from_high : (n : ℕ) (ys : List ℕ) → Each (λ m. n < m) ys → from n ys ≡ ys
from_high n [] e = refl
from_high n (y ∷ ys) e = ap (λ (b : Bool). if b then from n ys else y ∷ from n ys) (not_below y n e.0) ∙ ap (λ (zs : List ℕ). y ∷ zs) (from_high n ys e.1)

pub with_between : (n : ℕ) (xs ys : List ℕ) → Each (λ m. m < n) xs → Each (λ m. n < m) ys → with_number n (xs ++ ys) ≡ xs ++ n ∷ ys
with_between n xs ys low high =
    ap (λ (zs : List ℕ). zs ++ n ∷ from n (xs ++ ys)) (below_low n xs ys low ∙ (ap (λ (zs : List ℕ). xs ++ zs) (below_high n ys high) ∙ append-nil xs))
    ∙ ap (λ (zs : List ℕ). xs ++ n ∷ zs) (from_low n xs ys low ∙ from_high n ys high)

without_out : (n : ℕ) (ns : List ℕ) → has n ns ≡ false → without n ns ≡ ns
without_out n [] e = refl
without_out n (m ∷ ns) e = go (m == n) refl (without_out n ns) where
  go : (b : Bool) → (m == n) ≡ b → (has n ns ≡ false → without n ns ≡ ns) → (if b then without n ns else m ∷ without n ns) ≡ m ∷ ns
  go true f ih = absurd (true≢false (sym (ap (λ (b : Bool). b || has n ns) f) ∙ e))
  go false f ih = ap (λ (zs : List ℕ). m ∷ zs) (ih (sym (ap (λ (b : Bool). b || has n ns) f) ∙ e))

without_if : (b : Bool) (n m : ℕ) (xs ys : List ℕ) → (if b then xs ++ ys else m ∷ xs ++ ys) ≡ (if b then xs else m ∷ xs) ++ ys
without_if true n m xs ys = refl
without_if false n m xs ys = refl

without_append : (n : ℕ) (xs ys : List ℕ) → without n (xs ++ ys) ≡ without n xs ++ without n ys
without_append n [] ys = refl
without_append n (x ∷ xs) ys = ap (λ (zs : List ℕ). if x == n then zs else x ∷ zs) (without_append n xs ys) ∙ without_if (x == n) n x (without n xs) (without n ys)

pub without_between : (n : ℕ) (xs ys : List ℕ) → Each (λ m. m < n) xs → Each (λ m. n < m) ys → without n (xs ++ n ∷ ys) ≡ xs ++ ys
without_between n xs ys low high =
    without_append n xs (n ∷ ys)
    ∙ (ap (λ (zs : List ℕ). zs ++ without n (n ∷ ys)) (without_out n xs (low_out n xs low))
    ∙ ap (λ (zs : List ℕ). xs ++ zs) (ap (λ (b : Bool). if b then without n ys else n ∷ without n ys) (same n) ∙ without_out n ys (high_out n ys high)))

pub has_append : (n : ℕ) (xs ys : List ℕ) → has n xs ≡ false → has n (xs ++ ys) ≡ has n ys
has_append n [] ys e = refl
has_append n (x ∷ xs) ys e = go (x == n) refl (has_append n xs ys) where
  go : (b : Bool) → (x == n) ≡ b → (has n xs ≡ false → has n (xs ++ ys) ≡ has n ys) → (b || has n (xs ++ ys)) ≡ has n ys
  go true f ih = absurd (true≢false (sym (ap (λ (b : Bool). b || has n xs) f) ∙ e))
  go false f ih = ih (sym (ap (λ (b : Bool). b || has n xs) f) ∙ e)

pub has_here : (n : ℕ) (ns : List ℕ) → has n (n ∷ ns) ≡ true
has_here n ns = ap (λ (b : Bool). b || has n ns) (same n)

pub rising_last : (ns : List ℕ) (n : ℕ) → Rising ns → Each (λ m. m < n) ns → Rising (ns ++ n ∷ [])
rising_last [] n r e = (tt, tt)
rising_last (m ∷ ns) n r e = (each_last ns r.0 e.0, rising_last ns n r.1 e.1) where
  each_last : (ms : List ℕ) → Each (λ k. m < k) ms → m < n → Each (λ k. m < k) (ms ++ n ∷ [])
  each_last [] f lt = (lt, tt)
  each_last (k ∷ ms) f lt = (f.0, each_last ms f.1 lt)

-- ---- so many different numbers out of others are no more than those

without_le : (n : ℕ) (ks : List ℕ) → length (without n ks) ≤ length ks
without_le n [] = omega arith
without_le n (k ∷ ks) = go (k == n) (without_le n ks) where
  go : (b : Bool) → length (without n ks) ≤ length ks → length (if b then without n ks else k ∷ without n ks) ≤ length (k ∷ ks)
  go true le = omega (arith, le)
  go false le = omega (arith, le)

without_less : (n : ℕ) (ks : List ℕ) → has n ks ≡ true → length (without n ks) + 1 ≤ length ks
without_less n [] h = absurd (true≢false (sym h))
without_less n (k ∷ ks) h = go (k == n) refl (without_less n ks) where
  go : (b : Bool) → (k == n) ≡ b → (has n ks ≡ true → length (without n ks) + 1 ≤ length ks) → length (if b then without n ks else k ∷ without n ks) + 1 ≤ length (k ∷ ks)
  go true e ih = omega (arith, without_le n ks)
  go false e ih = omega (arith, ih (sym (ap (λ (b : Bool). b || has n ks) e) ∙ h))

has_without : (m n : ℕ) (ks : List ℕ) → m ≢ n → has m ks ≡ true → has m (without n ks) ≡ true
has_without m n [] d h = h
has_without m n (k ∷ ks) d h = go (k == n) refl (k == m) refl (has_without m n ks d) where
  go : (b : Bool) → (k == n) ≡ b → (a : Bool) → (k == m) ≡ a → (has m ks ≡ true → has m (without n ks) ≡ true) → has m (if b then without n ks else k ∷ without n ks) ≡ true
  go true e true f ih = absurd (d (sym (eqb-true k m f) ∙ eqb-true k n e))
  go true e false f ih = ih (sym (ap (λ (b : Bool). b || has m ks) f) ∙ h)
  go false e true f ih = ap (λ (b : Bool). b || has m (without n ks)) f
  go false e false f ih = ap (λ (b : Bool). b || has m (without n ks)) f ∙ ih (sym (ap (λ (b : Bool). b || has m ks) f) ∙ h)

has_there : (m n : ℕ) (ns : List ℕ) → has m ns ≡ true → has m (n ∷ ns) ≡ true
has_there m n ns h = go (n == m) where
  go : (b : Bool) → (b || has m ns) ≡ true
  go true = refl
  go false = h

pub no_more : (ns ks : List ℕ) → Rising ns → ((m : ℕ) → has m ns ≡ true → has m ks ≡ true) → length ns ≤ length ks
no_more [] ks r f = omega arith
no_more (n ∷ ns) ks r f =
    let less = no_more ns (without n ks) r.1 (λ m h. has_without m n ks (λ i. true≢false (sym h ∙ (ap (λ (j : ℕ). has j ns) i ∙ high_out n ns r.0))) (f m (has_there m n ns h))) in
    omega (arith, less, without_less n ks (f n (has_here n ns)))

-- ---- how many there are with a number, and without it

count_if : (b : Bool) (n : ℕ) (ns : List ℕ) → length (below n ns) + length (from n ns) ≡ length ns → (m : ℕ) → length (if b then m ∷ below n ns else below n ns) + length (if b then from n ns else m ∷ from n ns) ≡ length (m ∷ ns)
count_if true n ns e m = omega (arith, e)
count_if false n ns e m = omega (arith, e)

count_parts : (n : ℕ) (ns : List ℕ) → length (below n ns) + length (from n ns) ≡ length ns
count_parts n [] = refl
count_parts n (m ∷ ns) = count_if (nat_lt m n) n ns (count_parts n ns) m

pub length_with : (n : ℕ) (ns : List ℕ) → length (with_number n ns) ≡ length ns + 1
length_with n ns = omega (arith, length-append (below n ns) (n ∷ from n ns), count_parts n ns)

pub length_without : (n : ℕ) (ns : List ℕ) → Rising ns → has n ns ≡ true → length (without n ns) + 1 ≡ length ns
length_without n [] r h = absurd (true≢false (sym h))
length_without n (m ∷ ns) r h = go (m == n) refl (length_without n ns r.1) where
  go : (b : Bool) → (m == n) ≡ b → (has n ns ≡ true → length (without n ns) + 1 ≡ length ns) → length (if b then without n ns else m ∷ without n ns) + 1 ≡ length (m ∷ ns)
  go true e ih = omega (arith, ap length (without_out n ns (high_out n ns (subst (λ (k : ℕ). Each (λ j. k < j) ns) (eqb-true m n e) r.0))))
  go false e ih = omega (arith, ih (sym (ap (λ (b : Bool). b || has n ns) e) ∙ h))

pub rising_without : (n : ℕ) (ns : List ℕ) → Rising ns → Rising (without n ns)
rising_without n [] r = tt
rising_without n (m ∷ ns) r = go (m == n) (each_without (λ k. m < k) n ns r.0) (rising_without n ns r.1) where
  each_without : (P : ℕ → Type 0) (k : ℕ) (ks : List ℕ) → Each P ks → Each P (without k ks)
  each_without P k [] e = tt
  each_without P k (j ∷ ks) e = pick (j == k) (each_without P k ks e.1) where
    pick : (b : Bool) → Each P (without k ks) → Each P (if b then without k ks else j ∷ without k ks)
    pick true d = d
    pick false d = (e.0, d)

  go : (b : Bool) → Each (λ k. m < k) (without n ns) → Rising (without n ns) → Rising (if b then without n ns else m ∷ without n ns)
  go true d ih = ih
  go false d ih = (d, ih)
