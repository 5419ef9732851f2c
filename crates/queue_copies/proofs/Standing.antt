-- What is known of a copy whose number has a key.
use Rattle.std.proofs.Common.{◌≡◌, ℕ, ◌==◌, ◌<◌, ◌≤◌, ◌^◌, Bool, true, false, nat_eq, List, length, Option, None, Some, is_some, refl, sym, ap, subst, ◌∙◌, arith}
use Rattle.std.proofs.lemmas.Bool.{true≢false, eqb-true}
use Rattle.std.proofs.lemmas.Option.{none-some}
use Rattle.indexmap.specs.IndexMap.{IndexMap, get}
use Rattle.node_list.specs.Keys.{list_at}
use Rattle.node_list.specs.Lists.{Listed, item_at, IsLive}
use Rattle.number_tree.specs.Numbers.{Rising, has as has_number}
use Rattle.number_tree.specs.declared.numbers.Slot.{Slot}
use Rattle.queue_copies.specs.declared.entry.Held.{Held}
use Rattle.queue_copies.specs.declared.entry.Entry.{Entry}
use Rattle.queue_copies.specs.Shelves.{Shelved, shelf_at}
use Rattle.queue_copies.specs.Copied.{Hold, Copied, find_in, IsThere, IsGreatest, hold_of, holder_of}
use Rattle.queue_copies.specs.Sound.{seen_hold, seen, gathered, stocked, Whole}
use Rattle.queue_copies.proofs.Parted.{count_both, rising_available, free_there, held_away, held_some}
use Rattle.queue_copies.proofs.Sounding.{among, within, found, part, few, missing, entry_of}

pub seen_some : (o : Option Held) → is_some (seen_hold o) ≡ is_some o
seen_some None = refl
seen_some (Some h) = refl

pub none_held : (o : Option Held) → is_some o ≡ false → o ≡ None
none_held None q = refl
none_held (Some h) q = absurd (true≢false q)

some_held : (o : Option Hold) → is_some o ≡ true → (h : Hold) × (o ≡ Some h)
some_held None q = absurd (true≢false (sym q))
some_held (Some h) q = (h, refl)

none_hold : (o : Option Hold) → is_some o ≡ false → o ≡ None
none_hold None q = refl
none_hold (Some h) q = absurd (true≢false q)

module _ {S : Type 0} (nodes : Listed Entry) (keys : IndexMap ℕ ℕ S) (shelves : List Shelved) (slots : List Slot) (w : Whole nodes keys shelves slots) where
  -- no list has more than 2^63 copies
  small : (l : ℕ) → length (gathered (item_at nodes) (list_at nodes.lists l)) < 2 ^ 63
  small l = omega (arith, w.few, few (item_at nodes) nodes.lists nodes.held (get nat_eq keys) shelves w.sound keys.entries (λ m k t. among m keys.entries k t) l)

  pub free_small : (l : ℕ) → length (shelf_at shelves l).available < 2 ^ 63
  free_small l = let cs = gathered (item_at nodes) (list_at nodes.lists l) in omega (arith, small l, count_both cs, ap (λ (s : Shelved). length s.available) (w.sound.known l))

  pub held_small : (l : ℕ) → (shelf_at shelves l).held < 2 ^ 63
  held_small l = let cs = gathered (item_at nodes) (list_at nodes.lists l) in omega (arith, small l, count_both cs, ap (λ (s : Shelved). s.held) (w.sound.known l))

  pub shelf_rising : (l : ℕ) → Rising (shelf_at shelves l).available
  shelf_rising l = subst (λ (s : Shelved). Rising s.available) (sym (w.sound.known l)) (rising_available (gathered (item_at nodes) (list_at nodes.lists l)) (w.sound.rising l))

  -- a number that is there has a key
  pub unreached : (n : ℕ) → get nat_eq keys n ≡ None → IsThere n (stocked nodes slots).lists → ⊥
  unreached n q there = true≢false (sym there ∙ ap (λ (o : Option Copied). is_some o) (missing (item_at nodes) nodes.lists nodes.held (get nat_eq keys) shelves w.sound n q))

  pub is_live : (n key : ℕ) → get nat_eq keys n ≡ Some key → IsLive nodes key
  is_live n key q = let e = entry_of (item_at nodes) nodes.lists nodes.held (get nat_eq keys) shelves w.sound n key q in ap (λ (o : Option Entry). is_some o) e.1.0

  pub some_entry : (key : ℕ) → IsLive nodes key → (e : Entry) × (item_at nodes key ≡ Some e)
  some_entry key live = go (item_at nodes key) refl where
    go : (o : Option Entry) → item_at nodes key ≡ o → (e : Entry) × (item_at nodes key ≡ Some e)
    go None q = absurd (true≢false (sym live ∙ ap (λ (o : Option Entry). is_some o) q))
    go (Some e) q = (e, q)

  module _ (n key : ℕ) (e : Entry) (q : get nat_eq keys n ≡ Some key) (is : item_at nodes key ≡ Some e) where
    pub find_is : find_in n (stocked nodes slots).lists ≡ Some (seen e)
    find_is = found (item_at nodes) nodes.lists nodes.held (get nat_eq keys) shelves w.sound n key e q is

    pub is_there : IsThere n (stocked nodes slots).lists
    is_there = ap (λ (o : Option Copied). is_some o) find_is

    pub holder_is : holder_of (seen_hold e.held) ≡ holder_of (hold_of (find_in n (stocked nodes slots).lists))
    holder_is = ap (λ (o : Option Copied). holder_of (hold_of o)) (sym find_is)

    pub in_shelves : e.list < length shelves
    in_shelves = subst (λ (m : ℕ). e.list < m) (sym w.sound.shelved) (within (item_at nodes) nodes.lists nodes.held (get nat_eq keys) shelves w.sound key e is)

    pub is_free : is_some e.held ≡ false → has_number n (shelf_at shelves e.list).available ≡ true
    is_free t =
        let p = part (item_at nodes) nodes.lists nodes.held (get nat_eq keys) shelves w.sound n key e q is in
        ap (λ (s : Shelved). has_number n s.available) (w.sound.known e.list)
        ∙ free_there n (gathered (item_at nodes) (list_at nodes.lists e.list)) (seen e) p.0 p.1.0 p.1.1 (none_hold (seen_hold e.held) (seen_some e.held ∙ t))

    pub is_away : is_some e.held ≡ true → has_number n (shelf_at shelves e.list).available ≡ false
    is_away t =
        let p = part (item_at nodes) nodes.lists nodes.held (get nat_eq keys) shelves w.sound n key e q is in
        let h = some_held (seen_hold e.held) (seen_some e.held ∙ t) in
        ap (λ (s : Shelved). has_number n s.available) (w.sound.known e.list)
        ∙ held_away n (gathered (item_at nodes) (list_at nodes.lists e.list)) (seen e) p.0 p.1.0 p.1.1 h.0 h.1

    pub is_counted : is_some e.held ≡ true → 0 < (shelf_at shelves e.list).held
    is_counted t =
        let p = part (item_at nodes) nodes.lists nodes.held (get nat_eq keys) shelves w.sound n key e q is in
        let h = some_held (seen_hold e.held) (seen_some e.held ∙ t) in
        subst (λ (s : Shelved). 0 < s.held) (sym (w.sound.known e.list)) (held_some n (gathered (item_at nodes) (list_at nodes.lists e.list)) (seen e) p.0 p.1.0 p.1.1 h.0 h.1)

  -- a number that isn't there has no key
  pub some_key : (n : ℕ) → (IsThere n (stocked nodes slots).lists → ⊥) → get nat_eq keys n ≡ None
  some_key n away = go (get nat_eq keys n) refl where
    go : (o : Option ℕ) → get nat_eq keys n ≡ o → o ≡ None
    go None q = refl
    go (Some key) q =
        let e = entry_of (item_at nodes) nodes.lists nodes.held (get nat_eq keys) shelves w.sound n key q in
        absurd (away (is_there n key e.0 q e.1.0))

  key_there : (n key : ℕ) → get nat_eq keys n ≡ Some key → IsThere n (stocked nodes slots).lists
  key_there n key q = let e = entry_of (item_at nodes) nodes.lists nodes.held (get nat_eq keys) shelves w.sound n key q in is_there n key e.0 q e.1.0

  -- a number has a key exactly where it is there
  pub keyed_is : (n : ℕ) → is_some (get nat_eq keys n) ≡ is_some (find_in n (stocked nodes slots).lists)
  keyed_is n = go (get nat_eq keys n) refl where
    go : (o : Option ℕ) → get nat_eq keys n ≡ o → is_some (get nat_eq keys n) ≡ is_some (find_in n (stocked nodes slots).lists)
    go None q = ap (λ (o : Option ℕ). is_some o) q ∙ sym (ap (λ (o : Option Copied). is_some o) (missing (item_at nodes) nodes.lists nodes.held (get nat_eq keys) shelves w.sound n q))
    go (Some key) q = ap (λ (o : Option ℕ). is_some o) q ∙ sym (key_there n key q)

  pub greatest_there : (g : ℕ) → ((n key : ℕ) → get nat_eq keys n ≡ Some key → n ≤ g) → (n : ℕ) → IsThere n (stocked nodes slots).lists → n ≤ g
  greatest_there g top n there = go (get nat_eq keys n) refl where
    go : (o : Option ℕ) → get nat_eq keys n ≡ o → n ≤ g
    go None q = absurd (unreached n q there)
    go (Some key) q = top n key q

  -- with a number more
  pub more_greatest : (keys2 : IndexMap ℕ ℕ S) (n : ℕ) → ((m : ℕ) → (m == n) ≡ false → get nat_eq keys2 m ≡ get nat_eq keys m) → IsGreatest n (stocked nodes slots).lists → (m key : ℕ) → get nat_eq keys2 m ≡ Some key → m ≤ n
  more_greatest keys2 n rest top m key q = go (m == n) refl where
    go : (b : Bool) → (m == n) ≡ b → m ≤ n
    go true e = omega (arith, eqb-true m n e)
    go false e = omega (arith, top m (key_there m key (sym (rest m e) ∙ q)))

-- with a number less
pub fewer_greatest : {S : Type 0} (keys keys2 : IndexMap ℕ ℕ S) (n g : ℕ) → ((m key : ℕ) → get nat_eq keys m ≡ Some key → m ≤ g) → get nat_eq keys2 n ≡ None → ((m : ℕ) → (m == n) ≡ false → get nat_eq keys2 m ≡ get nat_eq keys m)
    → (m key : ℕ) → get nat_eq keys2 m ≡ Some key → m ≤ g
fewer_greatest {S} keys keys2 n g top out rest m key q = go (m == n) refl where
  go : (b : Bool) → (m == n) ≡ b → m ≤ g
  go true e = absurd (none-some key (sym out ∙ (ap (get nat_eq keys2) (sym (eqb-true m n e)) ∙ q)))
  go false e = top m key (sym (rest m e) ∙ q)
