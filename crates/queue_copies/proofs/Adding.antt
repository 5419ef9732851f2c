-- A copy is added, and everything is tied together as before.
use Rattle.std.proofs.Common.{◌≡◌, ℕ, ◌==◌, ◌<◌, ◌≤◌, ◌^◌, false, nat_eq, List, [], ◌∷◌, ◌++◌, length, map, None, Some, refl, sym, ap, subst, ◌∙◌, arith, slice_index_or, slice_set}
use Rattle.std.proofs.lemmas.List.{get_or_default, length-map, map-set}
use Rattle.std.proofs.Math.ListN.{get_or-map as map_at}
use Rattle.indexmap.specs.IndexMap.{IndexMap, get, index_map_len, spare}
use Rattle.node_list.specs.Keys.{list_at}
use Rattle.node_list.specs.Lists.{Listed, item_at, Puts}
use Rattle.number_tree.specs.Numbers.{Each, has as has_number, with_number}
use Rattle.number_tree.specs.declared.numbers.Slot.{Slot}
use Rattle.queue_copies.specs.declared.entry.QueueCopy.{QueueCopy}
use Rattle.queue_copies.specs.declared.entry.Entry.{Entry}
use Rattle.queue_copies.specs.Shelves.{Shelved, shelf_at, empty_shelf}
use Rattle.queue_copies.specs.Copied.{Copied, Stock, copies_at, numbers, IsThere, IsGreatest, available}
use Rattle.queue_copies.specs.Sound.{seen, gathered, stocked, Sound, Whole}
use Rattle.queue_copies.proofs.Numbers.{differ, low_out, each_in}
use Rattle.queue_copies.proofs.Parted.{each_available}
use Rattle.queue_copies.proofs.Sounding.{Others, copies_are, adds_sound, as_before, unlisted, added_is}
use Rattle.queue_copies.proofs.Views.{map_kept, shelf_added}
use Rattle.queue_copies.proofs.Standing.{some_key}
use Rattle.queue_copies.proofs.Purging.{is_in}

pub at_shelf : (shelves : List Shelved) (l : ℕ) (x : Shelved) → x ≡ slice_index_or shelves l x → l < length shelves → x ≡ shelf_at shelves l
at_shelf shelves l x is lt = is ∙ get_or_default shelves l x empty_shelf lt

pub shelf_made : (n : ℕ) (s x y : Shelved) → s.available ≡ with_number n x.available → s.held ≡ x.held → x ≡ y → s ≡ record { available = with_number n y.available; held = y.held }
shelf_made n s x y e f is =
    ap (λ (ns : List ℕ). record { available = ns; held = s.held }) e
    ∙ (ap (λ (m : ℕ). record { available = with_number n x.available; held = m }) f ∙ ap (λ (z : Shelved). record { available = with_number n z.available; held = z.held }) is)

-- what is asked of what is seen
module _ (nodes : Listed Entry) (slots : List Slot) (v : Stock) (is : stocked nodes slots ≡ v) where
  pub list_in : (l : ℕ) → l < length v.lists → l < length nodes.lists
  list_in l lt = omega (arith, lt, ap (λ (s : Stock). length s.lists) is, length-map nodes.lists (gathered (item_at nodes)))

  pub last_in : (l n : ℕ) → IsGreatest n v.lists → Each (λ m. m < n) (numbers (gathered (item_at nodes) (list_at nodes.lists l)))
  last_in l n top =
      each_in (λ m. m < n) (numbers (gathered (item_at nodes) (list_at nodes.lists l)))
      (λ m h. top m (subst (λ (s : Stock). IsThere m s.lists) is
      (is_in m (stocked nodes slots).lists l (ap (λ (cs : List Copied). has_number m (numbers cs)) (map_at (gathered (item_at nodes)) nodes.lists l []) ∙ h))))

  pub new_in : (n : ℕ) → IsGreatest n v.lists → IsThere n (stocked nodes slots).lists → ⊥
  new_in n top there = omega (arith, top n (subst (λ (s : Stock). IsThere n s.lists) is there))

module _ {S : Type 0} (nodes : Listed Entry) (keys : IndexMap ℕ ℕ S) (shelves : List Shelved) (slots : List Slot) (w : Whole nodes keys shelves slots)
    (l : ℕ) (copy : QueueCopy) (lt : l < length nodes.lists) (new : IsThere copy.number (stocked nodes slots).lists → ⊥) (last : Each (λ m. m < copy.number) (numbers (gathered (item_at nodes) (list_at nodes.lists l)))) where
  abbrev made : Entry
  made = record { list = l; copy = copy; held = None }

  unkeyed : get nat_eq keys copy.number ≡ None
  unkeyed = some_key nodes keys shelves slots w copy.number new

  pub not_available : has_number copy.number (shelf_at shelves l).available ≡ false
  not_available = ap (λ (s : Shelved). has_number copy.number s.available) (w.sound.known l) ∙ low_out copy.number (available (gathered (item_at nodes) (list_at nodes.lists l))) (each_available (λ m. m < copy.number) (gathered (item_at nodes) (list_at nodes.lists l)) last)

  module _ (nodes2 : Listed Entry) (key : ℕ) (puts : Puts nodes nodes2 key (record { list = l; copy = copy; held = None })) (lists_are : nodes2.lists ≡ slice_set nodes.lists l (list_at nodes.lists l ++ key ∷ [])) (held_are : nodes2.held ≡ nodes.held) where
    others : Others (item_at nodes) (item_at nodes2) key
    others j d = puts.others j (differ j key d)

    pub add_whole : (keys2 : IndexMap ℕ ℕ S) → get nat_eq keys2 copy.number ≡ Some key → ((m : ℕ) → (m == copy.number) ≡ false → get nat_eq keys2 m ≡ get nat_eq keys m) → index_map_len keys2 < 2 ^ 63
        → (slots2 : List Slot) → length slots2 ≤ nodes2.spare → length slots2 ≤ spare keys2 → (shelves2 : List Shelved) (shelf : Shelved) → shelves2 ≡ slice_set shelves l shelf
        → shelf ≡ record { available = with_number copy.number (shelf_at shelves l).available; held = (shelf_at shelves l).held } → Whole nodes2 keys2 shelves2 slots2
    add_whole keys2 here rest fewer slots2 nodes_room keys_room shelves2 shelf set shelf_is = record {
      sound =
          subst (λ (hs : List (List ℕ)). Sound (item_at nodes2) nodes2.lists hs (get nat_eq keys2) shelves2) (sym held_are)
          (adds_sound (item_at nodes) nodes.lists nodes.held (get nat_eq keys) shelves w.sound copy.number key made unkeyed puts.was (item_at nodes2) others puts.is refl refl lt last
          (get nat_eq keys2) here rest nodes2.lists lists_are shelves2 shelf set
          (shelf_is ∙ (ap (λ (s : Shelved). record { available = with_number copy.number s.available; held = s.held }) (w.sound.known l)
          ∙ sym (shelf_added (gathered (item_at nodes) (list_at nodes.lists l)) (seen made) copy.number refl refl last))));
      few = fewer;
      nodes_room = nodes_room;
      keys_room = keys_room;
    }

    pub add_view : map (gathered (item_at nodes2)) nodes2.lists ≡ slice_set (stocked nodes slots).lists l (copies_at (stocked nodes slots).lists l ++ record { copy = copy; hold = None } ∷ [])
    add_view =
        ap (map (gathered (item_at nodes2))) lists_are
        ∙ (map-set (gathered (item_at nodes2)) nodes.lists l (list_at nodes.lists l ++ key ∷ [])
        ∙ (ap (λ (ls : List (List Copied)). slice_set ls l (gathered (item_at nodes2) (list_at nodes.lists l ++ key ∷ [])))
        (map_kept (item_at nodes) (item_at nodes2) key
        (as_before (item_at nodes) nodes.lists nodes.held (get nat_eq keys) shelves w.sound copy.number key made unkeyed puts.was (item_at nodes2) others puts.is refl refl lt last) nodes.lists
        (unlisted (item_at nodes) nodes.lists nodes.held (get nat_eq keys) shelves w.sound copy.number key made unkeyed puts.was (item_at nodes2) others puts.is refl refl lt last))
        ∙ ap (slice_set (stocked nodes slots).lists l)
        (added_is (item_at nodes) nodes.lists nodes.held (get nat_eq keys) shelves w.sound copy.number key made unkeyed puts.was (item_at nodes2) others puts.is refl refl lt last l
        ∙ ap (λ (cs : List Copied). cs ++ seen made ∷ []) (sym (copies_are (item_at nodes) nodes.lists nodes.held (get nat_eq keys) shelves w.sound l)))))
