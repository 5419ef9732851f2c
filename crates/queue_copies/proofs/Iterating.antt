-- From a node of a list on.
use Rattle.std.proofs.Common.{◌≡◌, ℕ, ◌==◌, ◌||◌, Bool, true, false, if◌then◌else◌, List, [], ◌∷◌, map, Option, None, Some, is_some, refl, sym, ap, subst, ◌∙◌}
use Rattle.std.proofs.lemmas.Bool.{eqb-true, true≢false}
use Rattle.std.proofs.lemmas.Option.{none-some}
use Rattle.node_list.specs.Keys.{has, Distinct, first_of, next_in, list_at}
use Rattle.node_list.specs.Lists.{Listed, item_at}
use Rattle.node_list.proofs.Keys.{here, there, behind}
use Rattle.number_tree.specs.Numbers.{Rising, has as has_number}
use Rattle.queue_copies.specs.declared.entry.Entry.{Entry}
use Rattle.queue_copies.specs.Copied.{Copied, numbers}
use Rattle.queue_copies.specs.Shelves.{Shelved}
use Rattle.queue_copies.specs.Sound.{seen, seen_first, gathered, lies_in, Sound}
use Rattle.queue_copies.specs.Iter.{pair, from_key, from_next, rest, Stands}
use Rattle.queue_copies.proofs.Numbers.{same, apart, is_false, high_out}
use Rattle.queue_copies.proofs.Gathering.{some_is}

first_has : (keys : List ℕ) (i : ℕ) → first_of keys ≡ Some i → has i keys ≡ true
first_has [] i q = absurd (none-some i q)
first_has (k ∷ keys) i q = subst (λ (j : ℕ). has j (k ∷ keys) ≡ true) (some_is k i q) (here k keys)

-- the key behind one is one of the list
next_has : (key : ℕ) (keys : List ℕ) (i : ℕ) → next_in key keys ≡ Some i → has i keys ≡ true
next_has key [] i q = absurd (none-some i q)
next_has key (k ∷ keys) i q = go (k == key) q (next_has key keys i) where
  go : (b : Bool) → (if b then first_of keys else next_in key keys) ≡ Some i → (next_in key keys ≡ Some i → has i keys ≡ true) → has i (k ∷ keys) ≡ true
  go true e ih = there i k keys (first_has keys i e)
  go false e ih = there i k keys (ih e)

-- a key that is behind another isn't that one
skip : (o : Option ℕ) (k : ℕ) (keys : List ℕ) → ((i : ℕ) → o ≡ Some i → has i keys ≡ true) → has k keys ≡ false → from_next o (k ∷ keys) ≡ from_next o keys
skip None k keys f n = refl
skip (Some i) k keys f n = ap (λ (b : Bool). if b then k ∷ keys else from_key i keys) (apart k i (λ e. true≢false (sym (f i refl) ∙ (ap (λ (j : ℕ). has j keys) (sym e) ∙ n))))

first_all : (keys : List ℕ) → from_next (first_of keys) keys ≡ keys
first_all [] = refl
first_all (k ∷ keys) = ap (λ (b : Bool). if b then k ∷ keys else from_key k keys) (same k)

pub step : (key : ℕ) (keys : List ℕ) → Distinct keys → has key keys ≡ true → from_key key keys ≡ key ∷ from_next (next_in key keys) keys
step key [] d h = absurd (true≢false (sym h))
step key (k ∷ keys) d h = go (k == key) refl (λ t. step key keys d.1 t) where
  go : (b : Bool) → (k == key) ≡ b → (has key keys ≡ true → from_key key keys ≡ key ∷ from_next (next_in key keys) keys)
      → (if b then k ∷ keys else from_key key keys) ≡ key ∷ from_next (if b then first_of keys else next_in key keys) (k ∷ keys)
  go true e ih =
      ap (λ (j : ℕ). j ∷ keys) (eqb-true k key e)
      ∙ ap (λ (js : List ℕ). key ∷ js) (sym (skip (first_of keys) k keys (first_has keys) d.0 ∙ first_all keys))
  go false e ih =
      ih (behind key k keys e h)
      ∙ ap (λ (js : List ℕ). key ∷ js) (sym (skip (next_in key keys) k keys (next_has key keys) d.0))

module _ (nodes : Listed Entry) (list : ℕ) where
  -- one copy further on
  pub next_rest : (key : ℕ) → Stands nodes list (Some key) → (e : Entry) → item_at nodes key ≡ Some e → rest nodes list (Some key) ≡ pair (seen e) ∷ rest nodes list (next_in key (list_at nodes.lists list))
  next_rest key s e is =
      ap (λ (ks : List ℕ). map pair (gathered (item_at nodes) ks)) (step key (list_at nodes.lists list) s.distinct (s.one key refl))
      ∙ ap (λ (o : Option Entry). map pair (seen_first o (gathered (item_at nodes) (from_next (next_in key (list_at nodes.lists list)) (list_at nodes.lists list))))) is

  pub next_stands : (key : ℕ) → Stands nodes list (Some key) → (o : Option ℕ) → o ≡ next_in key (list_at nodes.lists list) → Stands nodes list o
  next_stands key s o is = record { distinct = s.distinct; live = s.live; one = λ i q. next_has key (list_at nodes.lists list) i (sym is ∙ q) }

  pub first_rest : rest nodes list (first_of (list_at nodes.lists list)) ≡ map pair (gathered (item_at nodes) (list_at nodes.lists list))
  first_rest = ap (λ (ks : List ℕ). map pair (gathered (item_at nodes) ks)) (first_all (list_at nodes.lists list))

-- keys of entries whose numbers rise are different
pub distinct_keys : (f : ℕ → Option Entry) (keys : List ℕ) → ((k : ℕ) → has k keys ≡ true → is_some (f k) ≡ true) → Rising (numbers (gathered f keys)) → Distinct keys
distinct_keys f [] all r = tt
distinct_keys f (k ∷ keys) all r = go (f k) refl (all k (here k keys)) (λ t. distinct_keys f keys (λ j h. all j (there j k keys h)) t) where
  in_numbers : (js : List ℕ) (e : Entry) → f k ≡ Some e → has k js ≡ true → has_number e.copy.number (numbers (gathered f js)) ≡ true
  in_numbers [] e q h = absurd (true≢false (sym h))
  in_numbers (j ∷ js) e q h = pick (j == k) refl (in_numbers js e q) where
    or_true : (b c : Bool) → c ≡ true → (b || c) ≡ true
    or_true true c x = refl
    or_true false c x = x

    later : (o : Option Entry) (cs : List Copied) (n : ℕ) → has_number n (numbers cs) ≡ true → has_number n (numbers (seen_first o cs)) ≡ true
    later None cs n x = x
    later (Some d) cs n x = or_true (d.copy.number == n) (has_number n (numbers cs)) x

    pick : (b : Bool) → (j == k) ≡ b → (has k js ≡ true → has_number e.copy.number (numbers (gathered f js)) ≡ true) → has_number e.copy.number (numbers (seen_first (f j) (gathered f js))) ≡ true
    pick true x ih =
        ap (λ (i : ℕ). has_number e.copy.number (numbers (seen_first (f i) (gathered f js)))) (eqb-true j k x)
        ∙ (ap (λ (o : Option Entry). has_number e.copy.number (numbers (seen_first o (gathered f js)))) q ∙ ap (λ (b : Bool). b || has_number e.copy.number (numbers (gathered f js))) (same e.copy.number))
    pick false x ih = later (f j) (gathered f js) e.copy.number (ih (behind k j js x h))

  go : (o : Option Entry) → f k ≡ o → is_some o ≡ true → (Rising (numbers (gathered f keys)) → Distinct keys) → (has k keys ≡ false) × Distinct keys
  go None q s ih = absurd (true≢false (sym s))
  go (Some e) q s ih =
      let r2 = subst (λ (o : Option Entry). Rising (numbers (seen_first o (gathered f keys)))) q r in
      (is_false (has k keys) (λ h. true≢false (sym (in_numbers keys e q h) ∙ high_out e.copy.number (numbers (gathered f keys)) r2.0)), ih r2.1)

lies_some : (l : ℕ) (o : Option Entry) → lies_in l o ≡ true → is_some o ≡ true
lies_some l None q = absurd (true≢false (sym q))
lies_some l (Some e) q = refl

-- the first node of a list begins it
pub first_stands : (nodes : Listed Entry) (key_of : ℕ → Option ℕ) (shelves : List Shelved) → Sound (item_at nodes) nodes.lists nodes.held key_of shelves → (list : ℕ) (o : Option ℕ) → o ≡ first_of (list_at nodes.lists list) → Stands nodes list o
first_stands nodes key_of shelves s list o is = record {
  distinct = distinct_keys (item_at nodes) (list_at nodes.lists list) (λ k h. lies_some list (item_at nodes k) (sym (s.listed list k) ∙ h)) (s.rising list);
  live = λ k h. lies_some list (item_at nodes k) (sym (s.listed list k) ∙ h);
  one = λ k q. first_has (list_at nodes.lists list) k (sym is ∙ q);
}
