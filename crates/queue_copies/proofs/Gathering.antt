-- The copies at keys, once entries change.
use Rattle.std.proofs.Common.{◌≡◌, ℕ, zero, suc, ◌==◌, ◌||◌, Bool, true, false, if◌then◌else◌, List, [], ◌∷◌, ◌++◌, map, Option, None, Some, refl, sym, ap, ◌∙◌, arith}
use Rattle.std.proofs.lemmas.Bool.{eqb-true, true≢false}
use Rattle.std.proofs.lemmas.Option.{none-some}
use Rattle.std.proofs.lemmas.List.{get_or_past}
use Rattle.node_list.specs.Keys.{has, without, list_at}
use Rattle.node_list.proofs.Keys.{here, there}
use Rattle.number_tree.specs.Numbers.{has as has_number}
use Rattle.queue_copies.specs.declared.entry.Entry.{Entry}
use Rattle.queue_copies.specs.Copied.{Copied, numbers, find, either, find_in, changed, removed}
use Rattle.queue_copies.specs.Sound.{seen, seen_first, gathered, number_in}
use Rattle.queue_copies.proofs.Numbers.{same, is_false}

pub some_is : {A : Type 0} (x y : A) → ◌≡◌ {A = Option A} (Some x) (Some y) → x ≡ y
some_is {A} x y e = ap (λ (o : Option A). elim o [ None ↦ x | Some z ↦ z ]) e

-- an entry with a number
pub number_some : (o : Option Entry) (n : ℕ) → number_in o ≡ Some n → (e : Entry) × ((o ≡ Some e) × (e.copy.number ≡ n))
number_some None n q = absurd (none-some n q)
number_some (Some e) n q = (e, (refl, some_is e.copy.number n q))

pub gathered_same : (f h : ℕ → Option Entry) (ks : List ℕ) → ((j : ℕ) → has j ks ≡ true → h j ≡ f j) → gathered h ks ≡ gathered f ks
gathered_same f h [] q = refl
gathered_same f h (k ∷ ks) q = ap (λ (o : Option Entry). seen_first o (gathered h ks)) (q k (here k ks)) ∙ ap (seen_first (f k)) (gathered_same f h ks (λ j t. q j (there j k ks t)))

seen_append : (o : Option Entry) (xs ys : List Copied) → seen_first o (xs ++ ys) ≡ seen_first o xs ++ ys
seen_append None xs ys = refl
seen_append (Some e) xs ys = refl

pub gathered_last : (f : ℕ → Option Entry) (ks : List ℕ) (k : ℕ) → gathered f (ks ++ k ∷ []) ≡ gathered f ks ++ seen_first (f k) []
gathered_last f [] k = refl
gathered_last f (j ∷ ks) k = ap (seen_first (f j)) (gathered_last f ks k) ∙ seen_append (f j) (gathered f ks) (seen_first (f k) [])

numbers_first : (o p : Option Entry) (xs ys : List Copied) → number_in o ≡ number_in p → numbers xs ≡ numbers ys → numbers (seen_first o xs) ≡ numbers (seen_first p ys)
numbers_first None None xs ys q e = e
numbers_first None (Some b) xs ys q e = absurd (none-some b.copy.number q)
numbers_first (Some a) None xs ys q e = absurd (none-some a.copy.number (sym q))
numbers_first (Some a) (Some b) xs ys q e = ap (λ (n : ℕ). n ∷ numbers xs) (some_is a.copy.number b.copy.number q) ∙ ap (λ (ns : List ℕ). b.copy.number ∷ ns) e

-- entries with the same numbers
pub numbers_same : (f h : ℕ → Option Entry) (ks : List ℕ) → ((j : ℕ) → number_in (h j) ≡ number_in (f j)) → numbers (gathered h ks) ≡ numbers (gathered f ks)
numbers_same f h [] q = refl
numbers_same f h (k ∷ ks) q = numbers_first (h k) (f k) (gathered h ks) (gathered f ks) (q k) (numbers_same f h ks q)

-- ---- a number that no entry has

module _ (f : ℕ → Option Entry) (n : ℕ) (none : (j : ℕ) → number_in (f j) ≡ Some n → ⊥) where
  find_none_go : (o : Option Entry) → (number_in o ≡ Some n → ⊥) → (cs : List Copied) → find n cs ≡ None → find n (seen_first o cs) ≡ None
  find_none_go None d cs e = e
  find_none_go (Some x) d cs e = ap (λ (b : Bool). if b then Some (seen x) else find n cs) (is_false (x.copy.number == n) (λ t. d (ap (λ (m : ℕ). Some m) (eqb-true x.copy.number n t)))) ∙ e

  find_none : (ks : List ℕ) → find n (gathered f ks) ≡ None
  find_none [] = refl
  find_none (k ∷ ks) = find_none_go (f k) (none k) (gathered f ks) (find_none ks)

  pub find_in_none : (lists : List (List ℕ)) → find_in n (map (gathered f) lists) ≡ None
  find_in_none [] = refl
  find_in_none (ks ∷ lists) = ap (λ (o : Option Copied). either o (find_in n (map (gathered f) lists))) (find_none ks) ∙ find_in_none lists

  has_none_go : (o : Option Entry) → (number_in o ≡ Some n → ⊥) → (cs : List Copied) → has_number n (numbers cs) ≡ false → has_number n (numbers (seen_first o cs)) ≡ false
  has_none_go None d cs e = e
  has_none_go (Some x) d cs e = ap (λ (b : Bool). b || has_number n (numbers cs)) (is_false (x.copy.number == n) (λ t. d (ap (λ (m : ℕ). Some m) (eqb-true x.copy.number n t)))) ∙ e

  pub has_none : (ks : List ℕ) → has_number n (numbers (gathered f ks)) ≡ false
  has_none [] = refl
  has_none (k ∷ ks) = has_none_go (f k) (none k) (gathered f ks) (has_none ks)

-- ---- a number that one entry has

module _ (f : ℕ → Option Entry) (n key : ℕ) (e : Entry) (is : f key ≡ Some e) (num : e.copy.number ≡ n) (only : (j : ℕ) → number_in (f j) ≡ Some n → j ≡ key) where
  at : (e.copy.number == n) ≡ true
  at = ap (λ (m : ℕ). m == n) num ∙ same n

  -- another key has another number
  far : (k : ℕ) (x : Entry) → (k == key) ≡ false → f k ≡ Some x → (x.copy.number == n) ≡ false
  far k x d q = is_false (x.copy.number == n) (λ t. true≢false (sym (ap (λ (j : ℕ). j == key) (only k (ap number_in q ∙ ap (λ (m : ℕ). Some m) (eqb-true x.copy.number n t))) ∙ same key) ∙ d))

  find_far : (k : ℕ) → (k == key) ≡ false → (o : Option Entry) → f k ≡ o → (cs : List Copied) → find n (seen_first o cs) ≡ find n cs
  find_far k d None q cs = refl
  find_far k d (Some x) q cs = ap (λ (b : Bool). if b then Some (seen x) else find n cs) (far k x d q)

  find_here : (cs : List Copied) → find n (seen_first (Some e) cs) ≡ Some (seen e)
  find_here cs = ap (λ (b : Bool). if b then Some (seen e) else find n cs) at

  key_go : (k : ℕ) (b : Bool) → (k == key) ≡ b → (cs : List Copied) (t : Bool) → find n cs ≡ (if t then Some (seen e) else None) → find n (seen_first (f k) cs) ≡ (if b || t then Some (seen e) else None)
  key_go k true q cs t ih = ap (λ (j : ℕ). find n (seen_first (f j) cs)) (eqb-true k key q) ∙ (ap (λ (o : Option Entry). find n (seen_first o cs)) is ∙ find_here cs)
  key_go k false q cs t ih = find_far k q (f k) refl cs ∙ ih

  pub find_key : (ks : List ℕ) → find n (gathered f ks) ≡ (if has key ks then Some (seen e) else None)
  find_key [] = refl
  find_key (k ∷ ks) = key_go k (k == key) refl (gathered f ks) (has key ks) (find_key ks)

  in_go : (t : Bool) (rest : Option Copied) → (t ≡ false → rest ≡ Some (seen e)) → either (if t then Some (seen e) else None) rest ≡ Some (seen e)
  in_go true rest q = refl
  in_go false rest q = q refl

  pub find_in_key : (lists : List (List ℕ)) (l : ℕ) → has key (list_at lists l) ≡ true → find_in n (map (gathered f) lists) ≡ Some (seen e)
  find_in_key [] l h = absurd (true≢false (sym h ∙ ap (λ (ks : List ℕ). has key ks) (get_or_past [] l [] (omega arith))))
  find_in_key (ks ∷ lists) zero h =
      ap (λ (o : Option Copied). either o (find_in n (map (gathered f) lists))) (find_key ks)
      ∙ in_go (has key ks) (find_in n (map (gathered f) lists)) (λ q. absurd (true≢false (sym h ∙ q)))
  find_in_key (ks ∷ lists) (suc l) h =
      ap (λ (o : Option Copied). either o (find_in n (map (gathered f) lists))) (find_key ks)
      ∙ in_go (has key ks) (find_in n (map (gathered f) lists)) (λ q. find_in_key lists l h)

  -- the entry of the key changes
  module _ (h : ℕ → Option Entry) (others : (j : ℕ) → (j == key) ≡ false → h j ≡ f j) where
    changed_far : (g : Copied → Copied) (k : ℕ) → (k == key) ≡ false → (o : Option Entry) → f k ≡ o → (xs ys : List Copied) → xs ≡ changed n g ys → seen_first o xs ≡ changed n g (seen_first o ys)
    changed_far g k d None q xs ys ih = ih
    changed_far g k d (Some x) q xs ys ih =
        ap (λ (zs : List Copied). seen x ∷ zs) ih ∙ ap (λ (b : Bool). (if b then g (seen x) else seen x) ∷ changed n g ys) (sym (far k x d q))

    changed_go : (g : Copied → Copied) (e2 : Entry) → h key ≡ Some e2 → seen e2 ≡ g (seen e) → (k : ℕ) (b : Bool) → (k == key) ≡ b → (xs ys : List Copied) → xs ≡ changed n g ys
        → seen_first (h k) xs ≡ changed n g (seen_first (f k) ys)
    changed_go g e2 is2 s k true q xs ys ih =
        ap (λ (j : ℕ). seen_first (h j) xs) (eqb-true k key q)
        ∙ (ap (λ (o : Option Entry). seen_first o xs) is2
        ∙ (ap (λ (c : Copied). c ∷ xs) s ∙ (ap (λ (zs : List Copied). g (seen e) ∷ zs) ih
        ∙ (ap (λ (b : Bool). (if b then g (seen e) else seen e) ∷ changed n g ys) (sym at)
        ∙ (ap (λ (o : Option Entry). changed n g (seen_first o ys)) (sym is) ∙ ap (λ (j : ℕ). changed n g (seen_first (f j) ys)) (sym (eqb-true k key q)))))))
    changed_go g e2 is2 s k false q xs ys ih = ap (λ (o : Option Entry). seen_first o xs) (others k q) ∙ changed_far g k q (f k) refl xs ys ih

    pub changed_gathered : (g : Copied → Copied) (e2 : Entry) → h key ≡ Some e2 → seen e2 ≡ g (seen e) → (ks : List ℕ) → gathered h ks ≡ changed n g (gathered f ks)
    changed_gathered g e2 is2 s [] = refl
    changed_gathered g e2 is2 s (k ∷ ks) = changed_go g e2 is2 s k (k == key) refl (gathered h ks) (gathered f ks) (changed_gathered g e2 is2 s ks)

    removed_far : (k : ℕ) → (k == key) ≡ false → (o : Option Entry) → f k ≡ o → (xs ys : List Copied) → xs ≡ removed n ys → seen_first o xs ≡ removed n (seen_first o ys)
    removed_far k d None q xs ys ih = ih
    removed_far k d (Some x) q xs ys ih = ap (λ (zs : List Copied). seen x ∷ zs) ih ∙ ap (λ (b : Bool). if b then removed n ys else seen x ∷ removed n ys) (sym (far k x d q))

    removed_go : (k : ℕ) (b : Bool) → (k == key) ≡ b → (ks : List ℕ) (ys : List Copied) → gathered h ks ≡ removed n ys → gathered h (if b then ks else k ∷ ks) ≡ removed n (seen_first (f k) ys)
    removed_go k true q ks ys ih =
        ih ∙ (ap (λ (b : Bool). if b then removed n ys else seen e ∷ removed n ys) (sym at)
        ∙ (ap (λ (o : Option Entry). removed n (seen_first o ys)) (sym is) ∙ ap (λ (j : ℕ). removed n (seen_first (f j) ys)) (sym (eqb-true k key q))))
    removed_go k false q ks ys ih = ap (λ (o : Option Entry). seen_first o (gathered h ks)) (others k q) ∙ removed_far k q (f k) refl (gathered h ks) ys ih

    pub removed_gathered : (ks : List ℕ) → gathered h (without key ks) ≡ removed n (gathered f ks)
    removed_gathered [] = refl
    removed_gathered (k ∷ ks) = removed_go k (k == key) refl (without key ks) (gathered f ks) (removed_gathered ks)
