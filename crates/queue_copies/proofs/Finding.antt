-- What is found by a number, and what a holder has.
use Rattle.std.proofs.Common.{◌≡◌, ℕ, ◌==◌, true, nat_eq, List, [], ◌∷◌, Option, None, Some, refl, sym, ap, subst, ◌∙◌}
use Rattle.std.proofs.lemmas.Bool.{eqb-true, true≢false}
use Rattle.std.proofs.lemmas.Option.{none-some}
use Rattle.indexmap.specs.IndexMap.{IndexMap, get}
use Rattle.node_list.specs.Keys.{has, list_at, first_of}
use Rattle.node_list.specs.Lists.{Listed, item_at}
use Rattle.node_list.proofs.Keys.{here}
use Rattle.number_tree.specs.declared.numbers.Slot.{Slot}
use Rattle.queue_copies.specs.declared.entry.Held.{Held}
use Rattle.queue_copies.specs.declared.entry.Entry.{Entry}
use Rattle.queue_copies.specs.Shelves.{Shelved}
use Rattle.queue_copies.specs.Copied.{Copied, find_in, copy_of, hold_of, lane_of}
use Rattle.queue_copies.specs.Sound.{seen_hold, number_in, is_lane, held_in, stocked, Whole}
use Rattle.queue_copies.proofs.Numbers.{same}
use Rattle.queue_copies.proofs.Gathering.{some_is}
use Rattle.queue_copies.proofs.Sounding.{missing, entry_of}
use Rattle.queue_copies.proofs.Standing.{find_is}

first_has : (ks : List ℕ) (k : ℕ) → first_of ks ≡ Some k → has k ks ≡ true
first_has [] k q = absurd (none-some k q)
first_has (j ∷ ks) k q = subst (λ (i : ℕ). has i (j ∷ ks) ≡ true) (some_is j k q) (here j ks)

first_none : (ks : List ℕ) → first_of ks ≡ None → ks ≡ []
first_none [] q = refl
first_none (j ∷ ks) q = absurd (none-some j (sym q))

lane_is : (o : Option Held) (lane : ℕ) → is_lane lane o ≡ true → lane_of (seen_hold o) ≡ Some lane
lane_is None lane q = absurd (true≢false (sym q))
lane_is (Some h) lane q = ap (λ (m : ℕ). Some m) (eqb-true h.lane lane q)

is_lane_of : (o : Option Held) (lane : ℕ) → lane_of (seen_hold o) ≡ Some lane → is_lane lane o ≡ true
is_lane_of None lane q = absurd (none-some lane q)
is_lane_of (Some h) lane q = ap (λ (m : ℕ). m == lane) (some_is h.lane lane q) ∙ same lane

module _ {S : Type 0} (nodes : Listed Entry) (keys : IndexMap ℕ ℕ S) (shelves : List Shelved) (slots : List Slot) (w : Whole nodes keys shelves slots) where
  pub held_first : (key lane : ℕ) (e : Entry) → first_of (list_at nodes.held lane) ≡ Some key → item_at nodes key ≡ Some e → lane_of (hold_of (find_in e.copy.number (stocked nodes slots).lists)) ≡ Some lane
  held_first key lane e first is =
      let q = w.sound.keyed e.copy.number key (ap number_in is) in
      ap (λ (o : Option Copied). lane_of (hold_of o)) (find_is nodes keys shelves slots w e.copy.number key e q is)
      ∙ lane_is e.held lane (ap (held_in lane) (sym is) ∙ (sym (w.sound.held lane key) ∙ first_has (list_at nodes.held lane) key first))

  pub held_none : (lane : ℕ) → first_of (list_at nodes.held lane) ≡ None → (n : ℕ) → lane_of (hold_of (find_in n (stocked nodes slots).lists)) ≡ Some lane → ⊥
  held_none lane first n q = go (get nat_eq keys n) refl where
    go : (o : Option ℕ) → get nat_eq keys n ≡ o → ⊥
    go None t = none-some lane (ap (λ (o : Option Copied). lane_of (hold_of o)) (sym (missing (item_at nodes) nodes.lists nodes.held (get nat_eq keys) shelves w.sound n t)) ∙ q)
    go (Some key) t =
        let e = entry_of (item_at nodes) nodes.lists nodes.held (get nat_eq keys) shelves w.sound n key t in
        let lane_q = ap (λ (o : Option Copied). lane_of (hold_of o)) (sym (find_is nodes keys shelves slots w n key e.0 t e.1.0)) ∙ q in
        true≢false
        (sym (ap (held_in lane) e.1.0 ∙ is_lane_of e.0.held lane lane_q)
        ∙ (sym (w.sound.held lane key) ∙ ap (has key) (first_none (list_at nodes.held lane) first)))

  pub copy_found : (n key : ℕ) (e : Entry) → get nat_eq keys n ≡ Some key → item_at nodes key ≡ Some e → ◌≡◌ {A = Option _} (Some e.copy) (copy_of (find_in n (stocked nodes slots).lists))
  copy_found n key e q is = ap copy_of (sym (find_is nodes keys shelves slots w n key e q is))

  pub copy_missing : (n : ℕ) → get nat_eq keys n ≡ None → ◌≡◌ {A = Option _} None (copy_of (find_in n (stocked nodes slots).lists))
  copy_missing n q = ap copy_of (sym (missing (item_at nodes) nodes.lists nodes.held (get nat_eq keys) shelves w.sound n q))
