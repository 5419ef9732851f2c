-- What sessions hold once copies are added, purged or cleared away.
use Rattle.std.proofs.Common.{◌≡◌, ℕ, zero, suc, ◌==◌, ◌||◌, ◌<◌, ◌≤◌, Bool, true, false, if◌then◌else◌, List, [], ◌∷◌, ◌++◌, length, map, replicate, Option, None, Some, is_some, refl, sym, ap, subst, ◌∙◌, arith, slice_set}
use Rattle.std.proofs.lemmas.Bool.{eqb-true, true≢false}
use Rattle.std.proofs.lemmas.Option.{none-some}
use Rattle.std.proofs.lemmas.List.{set-get_or}
use Rattle.number_tree.specs.Numbers.{Each, Rising, has, first_of}
use Rattle.queue_copies.specs.Copied.{Hold, Copied, Ordered, copies_at, numbers, find, either, find_in, IsThere, hold_of, removed, held_only}
use Rattle.queue_copies.proofs.Numbers.{high_out}
use Rattle.queue_copies.proofs.Purging.{find_has, is_in, set_removed, at_removed}
use Rattle.held_copies.specs.Lanes.{Laned}
use Rattle.held_copies.specs.Holding.{Fits}
use Rattle.held_copies.proofs.Laning.{same, some_is}

-- whatever is held now was held before
abbrev pub Held : List (List Copied) → List (List Copied) → Type 0
Held old new = (m : ℕ) (h : Hold) → hold_of (find_in m new) ≡ Some h → hold_of (find_in m old) ≡ Some h

pub held_fits : (v : Laned) (old new : List (List Copied)) → Held old new → Fits v old → Fits v new
held_fits v old new k fits m h q = fits m h (k m h q)

-- ---- a copy more that nobody holds

find_last : (m : ℕ) (cs : List Copied) (c : Copied) → find m (cs ++ c ∷ []) ≡ either (find m cs) (if c.copy.number == m then Some c else None)
find_last m [] c = refl
find_last m (d ∷ cs) c = go (d.copy.number == m) (find_last m cs c) where
  go : (b : Bool) → find m (cs ++ c ∷ []) ≡ either (find m cs) (if c.copy.number == m then Some c else None)
      → (if b then Some d else find m (cs ++ c ∷ [])) ≡ either (if b then Some d else find m cs) (if c.copy.number == m then Some c else None)
  go true ih = refl
  go false ih = ih

add_go : (a rest : Option Copied) (b : Bool) (c : Copied) (h : Hold) → c.hold ≡ None → hold_of (either (either a (if b then Some c else None)) rest) ≡ Some h → hold_of (either a rest) ≡ Some h
add_go (Some x) rest b c h e q = q
add_go None rest true c h e q = absurd (none-some h (sym e ∙ q))
add_go None rest false c h e q = q

either_held : (a r s : Option Copied) (h : Hold) → (hold_of s ≡ Some h → hold_of r ≡ Some h) → hold_of (either a s) ≡ Some h → hold_of (either a r) ≡ Some h
either_held None r s h f q = f q
either_held (Some x) r s h f q = q

pub add_held : (lists : List (List Copied)) (l : ℕ) (c : Copied) → c.hold ≡ None → Held lists (slice_set lists l (copies_at lists l ++ c ∷ []))
add_held [] l c e m h q = absurd (none-some h q)
add_held (cs ∷ lists) zero c e m h q = add_go (find m cs) (find_in m lists) (c.copy.number == m) c h e (ap (λ (o : Option Copied). hold_of (either o (find_in m lists))) (sym (find_last m cs c)) ∙ q)
add_held (cs ∷ lists) (suc l) c e m h q = either_held (find m cs) (find_in m lists) (find_in m (slice_set lists l (copies_at lists l ++ c ∷ []))) h (add_held lists l c e m h) q

-- ---- a purge

held_has : (m : ℕ) (cs : List Copied) → has m (numbers (held_only cs)) ≡ true → has m (numbers cs) ≡ true
held_has m [] t = t
held_has m (c ∷ cs) t = go (is_some c.hold) t (held_has m cs) where
  or_true : (b d : Bool) → d ≡ true → (b || d) ≡ true
  or_true true d x = refl
  or_true false d x = x

  pick : (b : Bool) → (b || has m (numbers (held_only cs))) ≡ true → (has m (numbers (held_only cs)) ≡ true → has m (numbers cs) ≡ true) → (b || has m (numbers cs)) ≡ true
  pick true x ih = refl
  pick false x ih = ih x

  go : (b : Bool) → has m (numbers (if b then c ∷ held_only cs else held_only cs)) ≡ true → (has m (numbers (held_only cs)) ≡ true → has m (numbers cs) ≡ true) → (c.copy.number == m || has m (numbers cs)) ≡ true
  go true x ih = pick (c.copy.number == m) x ih
  go false x ih = or_true (c.copy.number == m) (has m (numbers cs)) (ih x)

-- what is found among held copies is found among all
find_held : (m : ℕ) (cs : List Copied) (d : Copied) → Rising (numbers cs) → find m (held_only cs) ≡ Some d → find m cs ≡ Some d
find_held m [] d r q = q
find_held m (c ∷ cs) d r q = go (is_some c.hold) q (c.copy.number == m) refl (find_held m cs d r.1) where
  found : find m (held_only cs) ≡ Some d → has m (numbers cs) ≡ true
  found t = held_has m cs (sym (find_has m (held_only cs)) ∙ ap (λ (o : Option Copied). is_some o) t)

  out : c.copy.number ≡ m → has m (numbers cs) ≡ false
  out e = high_out m (numbers cs) (subst (λ (k : ℕ). Each (λ j. k < j) (numbers cs)) e r.0)

  go : (b : Bool) → find m (if b then c ∷ held_only cs else held_only cs) ≡ Some d → (a : Bool) → (c.copy.number == m) ≡ a → (find m (held_only cs) ≡ Some d → find m cs ≡ Some d) → (if c.copy.number == m then Some c else find m cs) ≡ Some d
  go true t true e ih = ap (λ (b : Bool). if b then Some c else find m cs) e ∙ (sym (ap (λ (b : Bool). if b then Some c else find m (held_only cs)) e) ∙ t)
  go true t false e ih = ap (λ (b : Bool). if b then Some c else find m cs) e ∙ ih (sym (ap (λ (b : Bool). if b then Some c else find m (held_only cs)) e) ∙ t)
  go false t true e ih = absurd (true≢false (sym (found t) ∙ out (eqb-true c.copy.number m e)))
  go false t false e ih = ap (λ (b : Bool). if b then Some c else find m cs) e ∙ ih t

-- a number that is there is in a list
in_some : (m : ℕ) (lists : List (List Copied)) (h : Hold) → hold_of (find_in m lists) ≡ Some h → (k : ℕ) × (has m (numbers (copies_at lists k)) ≡ true)
in_some m [] h q = absurd (none-some h q)
in_some m (cs ∷ lists) h q = go (find m cs) refl q (in_some m lists h) where
  go : (o : Option Copied) → find m cs ≡ o → hold_of (either o (find_in m lists)) ≡ Some h → (hold_of (find_in m lists) ≡ Some h → (k : ℕ) × (has m (numbers (copies_at lists k)) ≡ true)) → (k : ℕ) × (has m (numbers (copies_at (cs ∷ lists) k)) ≡ true)
  go (Some c) e t ih = (0, sym (find_has m cs) ∙ ap (λ (o : Option Copied). is_some o) e)
  go None e t ih = let k = ih t in (suc k.0, k.1)

rest_ordered : (cs : List Copied) (lists : List (List Copied)) → Ordered (cs ∷ lists) → Ordered lists
rest_ordered cs lists o = record {
  rising = λ l. o.rising (suc l);
  apart = λ n l m x y. omega (arith, o.apart n (suc l) (suc m) x y);
}

pub purge_held : (lists : List (List Copied)) → Ordered lists → (l : ℕ) → Held lists (slice_set lists l (held_only (copies_at lists l)))
purge_held [] o l m h q = absurd (none-some h q)
purge_held (cs ∷ lists) o zero m h q = go (find m (held_only cs)) refl q (find m cs) refl where
  go : (a : Option Copied) → find m (held_only cs) ≡ a → hold_of (either a (find_in m lists)) ≡ Some h → (b : Option Copied) → find m cs ≡ b → hold_of (either (find m cs) (find_in m lists)) ≡ Some h
  go (Some c) e t b f = ap (λ (o : Option Copied). hold_of (either o (find_in m lists))) (find_held m cs c (o.rising 0) e) ∙ t
  go None e t None f = ap (λ (o : Option Copied). hold_of (either o (find_in m lists))) f ∙ t
  go None e t (Some d) f =
      let k = in_some m lists h t in
      absurd (zero_suc k.0 (o.apart m 0 (suc k.0) (sym (find_has m cs) ∙ ap (λ (o : Option Copied). is_some o) f) k.1)) where
        zero_suc : (j : ℕ) → ◌≡◌ {A = ℕ} 0 (suc j) → ⊥
        zero_suc j x = omega (arith, x)
purge_held (cs ∷ lists) o (suc l) m h q = either_held (find m cs) (find_in m lists) (find_in m (slice_set lists l (held_only (copies_at lists l)))) h (purge_held lists (rest_ordered cs lists o) l m h) q

-- ---- empty lists more

pub grown_held : (lists : List (List Copied)) (n : ℕ) → Held lists (lists ++ replicate n [])
grown_held [] zero m h q = q
grown_held [] (suc n) m h q = grown_held [] n m h q
grown_held (cs ∷ lists) n m h q = either_held (find m cs) (find_in m lists) (find_in m (lists ++ replicate n [])) h (grown_held lists n m h) q

-- ---- a list is cleared copy by copy

first_in : (ns : List ℕ) (n : ℕ) → first_of ns ≡ Some n → has n ns ≡ true
first_in [] n q = absurd (none-some n q)
first_in (m ∷ ns) n q = ap (λ (b : Bool). b || has n ns) (ap (λ (k : ℕ). k == n) (some_is m n q) ∙ same_as n) where
  same_as : (k : ℕ) → (k == k) ≡ true
  same_as k = same k

pub first_there : (lists : List (List Copied)) (l n : ℕ) → first_of (numbers (copies_at lists l)) ≡ Some n → IsThere n lists
first_there lists l n q = is_in n lists l (first_in (numbers (copies_at lists l)) n q)

pub clear_step : (lists : List (List Copied)) → Ordered lists → (l n : ℕ) → first_of (numbers (copies_at lists l)) ≡ Some n → l < length lists → slice_set (map (removed n) lists) l [] ≡ slice_set lists l []
clear_step lists o l n q lt = set_removed lists o l n (first_in (numbers (copies_at lists l)) n q) lt []

removed_le : (n : ℕ) (cs : List Copied) → length (removed n cs) ≤ length cs
removed_le n [] = omega arith
removed_le n (c ∷ cs) = go (c.copy.number == n) (removed_le n cs) where
  go : (b : Bool) → length (removed n cs) ≤ length cs → length (if b then removed n cs else c ∷ removed n cs) ≤ length (c ∷ cs)
  go true le = omega (arith, le)
  go false le = omega (arith, le)

first_less : (cs : List Copied) (n : ℕ) → first_of (numbers cs) ≡ Some n → length (removed n cs) < length cs
first_less [] n q = absurd (none-some n q)
first_less (c ∷ cs) n q =
    let e : (c.copy.number == n) ≡ true = ap (λ (k : ℕ). k == n) (some_is c.copy.number n q) ∙ same n in
    omega (arith, ap (λ (b : Bool). length (if b then removed n cs else c ∷ removed n cs)) e, removed_le n cs)

pub clear_less : (lists : List (List Copied)) → Ordered lists → (l n : ℕ) → first_of (numbers (copies_at lists l)) ≡ Some n → length (copies_at (map (removed n) lists) l) < length (copies_at lists l)
clear_less lists o l n q = omega (arith, first_less (copies_at lists l) n q, ap length (at_removed lists o l n (first_in (numbers (copies_at lists l)) n q)))

none_left : (cs : List Copied) → first_of (numbers cs) ≡ None → cs ≡ []
none_left [] q = refl
none_left (c ∷ cs) q = absurd (none-some c.copy.number (sym q))

pub clear_end : (lists : List (List Copied)) (l : ℕ) → first_of (numbers (copies_at lists l)) ≡ None → slice_set lists l [] ≡ lists
clear_end lists l q = ap (slice_set lists l) (sym (none_left (copies_at lists l) q)) ∙ set-get_or lists l []
