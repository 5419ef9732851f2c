-- Nothing is tied together as it should, and more lists change nothing.
use Rattle.std.proofs.Common.{◌≡◌, ℕ, zero, suc, ◌+◌, ◌≤◌, nat_eq, List, [], ◌∷◌, ◌++◌, length, map, replicate, Option, None, refl, sym, ap, subst, ◌∙◌, arith, slice_index_or}
use Rattle.std.proofs.lemmas.Option.{none-some}
use Rattle.std.proofs.lemmas.List.{get_or_past, length-append, length-replicate}
use Rattle.std.specs.Map.{lookup}
use Rattle.indexmap.specs.IndexMap.{IndexMap, get}
use Rattle.node_list.specs.Keys.{has}
use Rattle.node_list.specs.Lists.{Listed, item_at}
use Rattle.node_list.proofs.Showing.{grown_at}
use Rattle.number_tree.specs.Numbers.{Rising}
use Rattle.number_tree.specs.declared.numbers.Slot.{Slot}
use Rattle.queue_copies.specs.declared.entry.Entry.{Entry}
use Rattle.queue_copies.specs.Shelves.{Shelved, empty_shelf}
use Rattle.queue_copies.specs.Copied.{Copied, numbers, shelf_of}
use Rattle.queue_copies.specs.Sound.{gathered, number_in, lies_in, held_in, stocked, Sound, Whole}

map_new : (f : ℕ → Option Entry) (n : ℕ) → map (gathered f) (replicate n []) ≡ replicate n []
map_new f zero = refl
map_new f (suc n) = ap (λ (ls : List (List Copied)). [] ∷ ls) (map_new f n)

map_grown : (f : ℕ → Option Entry) (lists : List (List ℕ)) (n : ℕ) → map (gathered f) (lists ++ replicate n []) ≡ map (gathered f) lists ++ replicate n []
map_grown f [] n = map_new f n
map_grown f (ks ∷ lists) n = ap (λ (ls : List (List Copied)). gathered f ks ∷ ls) (map_grown f lists n)

length_grown : {A : Type 0} (xs : List A) (n : ℕ) (d : A) → length (xs ++ replicate n d) ≡ length xs + n
length_grown xs n d = length-append xs (replicate n d) ∙ ap (λ (m : ℕ). length xs + m) (length-replicate n d)

pub wide_sound : (f : ℕ → Option Entry) (lists lanes : List (List ℕ)) (key_of : ℕ → Option ℕ) (shelves : List Shelved) → Sound f lists lanes key_of shelves → (n : ℕ)
    → Sound f (lists ++ replicate n []) (lanes ++ replicate n []) key_of (shelves ++ replicate n empty_shelf)
wide_sound f lists lanes key_of shelves s n = record {
  numbered = s.numbered;
  keyed = s.keyed;
  listed = λ l k. ap (has k) (grown_at lists n [] l) ∙ s.listed l k;
  held = λ l k. ap (has k) (grown_at lanes n [] l) ∙ s.held l k;
  as_many = length_grown lanes n [] ∙ (ap (λ (m : ℕ). m + n) s.as_many ∙ sym (length_grown lists n []));
  shelved = length_grown shelves n empty_shelf ∙ (ap (λ (m : ℕ). m + n) s.shelved ∙ sym (length_grown lists n []));
  rising = λ l. subst (λ (ks : List ℕ). Rising (numbers (gathered f ks))) (sym (grown_at lists n [] l)) (s.rising l);
  known = λ l. grown_at shelves n empty_shelf l ∙ (s.known l ∙ ap (λ (ks : List ℕ). shelf_of (gathered f ks)) (sym (grown_at lists n [] l)));
}

empty_sound : (f : ℕ → Option Entry) → ((k : ℕ) → f k ≡ None) → (key_of : ℕ → Option ℕ) → ((n : ℕ) → key_of n ≡ None) → Sound f [] [] key_of []
empty_sound f none key_of new = record {
  numbered = λ n k q. absurd (none-some k (sym (new n) ∙ q));
  keyed = λ n k q. absurd (none-some n (ap number_in (sym (none k)) ∙ q));
  listed = λ l k. ap (has k) (get_or_past [] l [] (omega arith)) ∙ ap (lies_in l) (sym (none k));
  held = λ l k. ap (has k) (get_or_past [] l [] (omega arith)) ∙ ap (held_in l) (sym (none k));
  as_many = refl;
  shelved = refl;
  rising = λ l. subst (λ (ks : List ℕ). Rising (numbers (gathered f ks))) (sym (get_or_past [] l [] (omega arith))) tt;
  known = λ l. get_or_past [] l empty_shelf (omega arith) ∙ ap (λ (ks : List ℕ). shelf_of (gathered f ks)) (sym (get_or_past [] l [] (omega arith)));
}

module _ {S : Type 0} (nodes : Listed Entry) (keys : IndexMap ℕ ℕ S) (shelves : List Shelved) (slots : List Slot) where
  pub wide_whole : Whole nodes keys shelves slots → (n : ℕ) (nodes2 : Listed Entry) (shelves2 : List Shelved) → nodes2.items ≡ nodes.items → nodes2.lists ≡ nodes.lists ++ replicate n [] → nodes2.held ≡ nodes.held ++ replicate n [] → nodes2.spare ≡ nodes.spare
      → shelves2 ≡ shelves ++ replicate n empty_shelf → Whole nodes2 keys shelves2 slots
  wide_whole w n nodes2 shelves2 items_are lists_are held_are spare_is shelves_are = record {
    sound =
        subst (λ (f : ℕ → Option Entry). Sound f nodes2.lists nodes2.held (get nat_eq keys) shelves2) (ap {B = ℕ → Option Entry} (λ (xs : List (Option Entry)) (k : ℕ). slice_index_or xs k None) (sym items_are))
        (subst (λ (ls : List (List ℕ)). Sound (item_at nodes) ls nodes2.held (get nat_eq keys) shelves2) (sym lists_are)
        (subst (λ (ls : List (List ℕ)). Sound (item_at nodes) (nodes.lists ++ replicate n []) ls (get nat_eq keys) shelves2) (sym held_are)
        (subst (λ (ss : List Shelved). Sound (item_at nodes) (nodes.lists ++ replicate n []) (nodes.held ++ replicate n []) (get nat_eq keys) ss) (sym shelves_are)
        (wide_sound (item_at nodes) nodes.lists nodes.held (get nat_eq keys) shelves w.sound n))));
    few = w.few;
    nodes_room = subst (λ (m : ℕ). length slots ≤ m) (sym spare_is) w.nodes_room;
    keys_room = w.keys_room;
  }

  pub wide_view : (n : ℕ) (nodes2 : Listed Entry) → nodes2.items ≡ nodes.items → nodes2.lists ≡ nodes.lists ++ replicate n [] → map (gathered (item_at nodes2)) nodes2.lists ≡ (stocked nodes slots).lists ++ replicate n []
  wide_view n nodes2 items_are lists_are =
      ap (λ (xs : List (Option Entry)). map (gathered (λ (k : ℕ). slice_index_or xs k None)) nodes2.lists) items_are
      ∙ (ap (map (gathered (item_at nodes))) lists_are ∙ map_grown (item_at nodes) nodes.lists n)

  pub new_whole : (n : ℕ) → ((k : ℕ) → item_at nodes k ≡ None) → nodes.lists ≡ replicate n [] → nodes.held ≡ replicate n [] → keys.entries ≡ [] → shelves ≡ [] ++ replicate n empty_shelf → slots ≡ [] → Whole nodes keys shelves slots
  new_whole n none lists_are held_are new shelves_are slots_are = record {
    sound =
        subst (λ (ls : List (List ℕ)). Sound (item_at nodes) ls nodes.held (get nat_eq keys) shelves) (sym lists_are)
        (subst (λ (ls : List (List ℕ)). Sound (item_at nodes) (replicate n []) ls (get nat_eq keys) shelves) (sym held_are)
        (subst (λ (ss : List Shelved). Sound (item_at nodes) (replicate n []) (replicate n []) (get nat_eq keys) ss) (sym shelves_are)
        (wide_sound (item_at nodes) [] [] (get nat_eq keys) [] (empty_sound (item_at nodes) none (get nat_eq keys) (λ m. ap (λ (es : List (ℕ × ℕ)). lookup (nat_eq m) es) new)) n)));
    few = omega (arith, ap length new);
    nodes_room = omega (arith, ap length slots_are);
    keys_room = omega (arith, ap length slots_are);
  }

  pub new_view : (n : ℕ) → nodes.lists ≡ replicate n [] → map (gathered (item_at nodes)) nodes.lists ≡ replicate n []
  new_view n lists_are = ap (map (gathered (item_at nodes))) lists_are ∙ map_new (item_at nodes) n
