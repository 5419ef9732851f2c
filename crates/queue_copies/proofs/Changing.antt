-- A copy is held, available or gone, and everything is tied together as before.
use Rattle.std.proofs.Common.{◌≡◌, ℕ, ◌==◌, ◌<◌, ◌≤◌, ◌^◌, Bool, true, false, nat_eq, List, [], ◌∷◌, ◌++◌, length, map, Option, None, Some, is_some, refl, sym, ap, subst, inl, inr, ◌∙◌, slice_index_or, slice_set}
use Rattle.std.proofs.lemmas.Bool.{eqb-true, cases_lt}
use Rattle.std.proofs.lemmas.Option.{none-some}
use Rattle.std.proofs.lemmas.List.{get_or_past, get_or-set_same, get_or-set_other, length-set, length-map}
use Rattle.std.proofs.Math.ListN.{get_or-map as map_at}
use Rattle.indexmap.specs.IndexMap.{IndexMap, get, index_map_len, spare}
use Rattle.node_list.specs.Keys.{has, without, list_at}
use Rattle.node_list.specs.Lists.{Listed, item_at}
use Rattle.node_list.proofs.Keys.{has_put, in_put, has_without, has_out}
use Rattle.number_tree.specs.declared.numbers.Slot.{Slot}
use Rattle.queue_copies.specs.declared.entry.Holder.{Holder}
use Rattle.queue_copies.specs.declared.entry.Entry.{Entry}
use Rattle.queue_copies.specs.Shelves.{Shelved, shelf_at, shelf_held, shelf_free, shelf_without}
use Rattle.queue_copies.specs.Copied.{Copied, changed, removed, held_by, released, shelf_of}
use Rattle.queue_copies.specs.Sound.{seen, gathered, stocked, is_lane, held_in, Sound, Whole}
use Rattle.queue_copies.proofs.Numbers.{same, apart, differ}
use Rattle.queue_copies.proofs.Parted.{shelf_hold, shelf_release, shelf_remove}
use Rattle.queue_copies.proofs.Sounding.{Others, part, changes_is, changes_sound, removes_is, removes_sound}
use Rattle.queue_copies.proofs.Views.{map_changed, map_removed}
use Rattle.queue_copies.proofs.Standing.{seen_some}

at_without : (key : ℕ) (xs : List (List ℕ)) (i : ℕ) → list_at (map (λ ks. without key ks) xs) i ≡ without key (list_at xs i)
at_without key xs i = map_at (λ ks. without key ks) xs i []

pub let_gone : (key : ℕ) (xs ys : List (List ℕ)) → xs ≡ map (λ ks. without key ks) ys → (i : ℕ) → has key (list_at xs i) ≡ false
let_gone key xs ys is i = ap (λ (zs : List (List ℕ)). has key (list_at zs i)) is ∙ (ap (has key) (at_without key ys i) ∙ has_out key (list_at ys i))

-- an item is one of so many
item_in : (items : List (Option Entry)) (key : ℕ) (e : Entry) → slice_index_or items key None ≡ Some e → key < length items
item_in items key e is = elim (cases_lt key (length items)) [
  | inl lt ↦ lt
  | inr ge ↦ absurd (none-some e (sym (get_or_past items key None ge) ∙ is))
]

module _ {S : Type 0} (nodes : Listed Entry) (keys : IndexMap ℕ ℕ S) (shelves : List Shelved) (slots : List Slot) (w : Whole nodes keys shelves slots)
    (n key : ℕ) (e : Entry) (q : get nat_eq keys n ≡ Some key) (is : item_at nodes key ≡ Some e) where
  -- the node has another entry
  module _ (nodes2 : Listed Entry) (e2 : Entry) (items_are : nodes2.items ≡ slice_set nodes.items key (Some e2)) (lists_are : nodes2.lists ≡ nodes.lists) (spare_is : nodes2.spare ≡ nodes.spare) where
    others : Others (item_at nodes) (item_at nodes2) key
    others j d = ap (λ (xs : List (Option Entry)). slice_index_or xs j None) items_are ∙ get_or-set_other nodes.items key j (Some e2) None (differ j key d)

    now : item_at nodes2 key ≡ Some e2
    now = ap (λ (xs : List (Option Entry)). slice_index_or xs key None) items_are ∙ get_or-set_same nodes.items key (Some e2) None (item_in nodes.items key e is)

    changed_whole : (g : Copied → Copied) → seen e2 ≡ g (seen e) → e2.list ≡ e.list → e2.copy.number ≡ e.copy.number → length nodes2.held ≡ length nodes.held → ((lane j : ℕ) → has j (list_at nodes2.held lane) ≡ held_in lane (item_at nodes2 j))
        → (shelves2 : List Shelved) (shelf : Shelved) → shelves2 ≡ slice_set shelves e.list shelf → shelf ≡ shelf_of (changed n g (gathered (item_at nodes) (list_at nodes.lists e.list))) → Whole nodes2 keys shelves2 slots
    changed_whole g to list_same number_same lanes held2 shelves2 shelf set known2 = record {
      sound =
          subst (λ (ls : List (List ℕ)). Sound (item_at nodes2) ls nodes2.held (get nat_eq keys) shelves2) (sym lists_are)
          (changes_sound (item_at nodes) nodes.lists nodes.held (get nat_eq keys) shelves w.sound n key e q is (item_at nodes2) others e2 now g to list_same number_same nodes2.held lanes held2 shelves2 shelf set known2);
      few = w.few;
      nodes_room = subst (λ (m : ℕ). length slots ≤ m) (sym spare_is) w.nodes_room;
      keys_room = w.keys_room;
    }

    changed_view : (g : Copied → Copied) → seen e2 ≡ g (seen e) → e2.list ≡ e.list → e2.copy.number ≡ e.copy.number → map (gathered (item_at nodes2)) nodes2.lists ≡ map (changed n g) (stocked nodes slots).lists
    changed_view g to list_same number_same =
        ap (map (gathered (item_at nodes2))) lists_are
        ∙ map_changed (item_at nodes) (item_at nodes2) n g
        (changes_is (item_at nodes) nodes.lists nodes.held (get nat_eq keys) shelves w.sound n key e q is (item_at nodes2) others e2 now g to list_same number_same) nodes.lists

  -- it is held
  module _ (holder : Holder) (lane : ℕ) (slot : Slot) (nodes2 : Listed Entry)
      (items_are : nodes2.items ≡ slice_set nodes.items key (Some (record { list = e.list; copy = e.copy; held = Some (record { holder = holder; lane = lane; slot = slot }) })))
      (lists_are : nodes2.lists ≡ nodes.lists) (spare_is : nodes2.spare ≡ nodes.spare) (within : lane < length nodes.held) where
    abbrev made : Entry
    made = record { list = e.list; copy = e.copy; held = Some (record { holder = holder; lane = lane; slot = slot }) }

    abbrev left : List (List ℕ)
    left = map (λ ks. without key ks) nodes.held

    within_left : lane < length left
    within_left = subst (λ (m : ℕ). lane < m) (sym (length-map nodes.held (λ ks. without key ks))) within

    lane_go : (l j : ℕ) (b : Bool) → (l == lane) ≡ b → (d : Bool) → (j == key) ≡ d → has j (list_at (slice_set left lane (list_at left lane ++ key ∷ [])) l) ≡ held_in l (item_at nodes2 j)
    lane_go l j true a true d =
        ap (λ (i : ℕ). has j (list_at (slice_set left lane (list_at left lane ++ key ∷ [])) i)) (eqb-true l lane a)
        ∙ (ap (has j) (get_or-set_same left lane (list_at left lane ++ key ∷ []) [] within_left)
        ∙ (ap (λ (i : ℕ). has i (list_at left lane ++ key ∷ [])) (eqb-true j key d) ∙ (in_put None key (list_at left lane) refl
        ∙ (sym (ap (λ (i : ℕ). lane == i) (eqb-true l lane a) ∙ same lane) ∙ (ap (held_in l) (sym (now nodes2 made items_are lists_are spare_is)) ∙ ap (λ (i : ℕ). held_in l (item_at nodes2 i)) (sym (eqb-true j key d)))))))
    lane_go l j true a false d =
        ap (λ (i : ℕ). has j (list_at (slice_set left lane (list_at left lane ++ key ∷ [])) i)) (eqb-true l lane a)
        ∙ (ap (has j) (get_or-set_same left lane (list_at left lane ++ key ∷ []) [] within_left)
        ∙ (has_put None key j (list_at left lane) (differ j key d)
        ∙ (ap (has j) (at_without key nodes.held lane) ∙ (has_without j key (list_at nodes.held lane) (differ j key d)
        ∙ (w.sound.held lane j ∙ (ap (λ (i : ℕ). held_in i (item_at nodes j)) (sym (eqb-true l lane a)) ∙ ap (held_in l) (sym (others nodes2 made items_are lists_are spare_is j d))))))))
    lane_go l j false a true d =
        ap (has j) (get_or-set_other left lane l (list_at left lane ++ key ∷ []) [] (differ l lane a))
        ∙ (ap (λ (i : ℕ). has i (list_at left l)) (eqb-true j key d)
        ∙ (ap (has key) (at_without key nodes.held l) ∙ (has_out key (list_at nodes.held l)
        ∙ (sym (apart lane l (λ i. differ l lane a (sym i))) ∙ (ap (held_in l) (sym (now nodes2 made items_are lists_are spare_is)) ∙ ap (λ (i : ℕ). held_in l (item_at nodes2 i)) (sym (eqb-true j key d)))))))
    lane_go l j false a false d =
        ap (has j) (get_or-set_other left lane l (list_at left lane ++ key ∷ []) [] (differ l lane a))
        ∙ (ap (has j) (at_without key nodes.held l) ∙ (has_without j key (list_at nodes.held l) (differ j key d)
        ∙ (w.sound.held l j ∙ ap (held_in l) (sym (others nodes2 made items_are lists_are spare_is j d)))))

    pub hold_whole : nodes2.held ≡ slice_set left lane (list_at left lane ++ key ∷ []) → (shelves2 : List Shelved) → shelves2 ≡ slice_set shelves e.list (shelf_held (is_some e.held) n (shelf_at shelves e.list)) → Whole nodes2 keys shelves2 slots
    hold_whole held_is shelves2 set =
        let p = part (item_at nodes) nodes.lists nodes.held (get nat_eq keys) shelves w.sound n key e q is in
        changed_whole nodes2 made items_are lists_are spare_is (held_by holder lane) refl refl refl
        (ap length held_is ∙ (length-set left lane (list_at left lane ++ key ∷ []) ∙ length-map nodes.held (λ ks. without key ks)))
        (λ l j. ap (λ (xs : List (List ℕ)). has j (list_at xs l)) held_is ∙ lane_go l j (l == lane) refl (j == key) refl)
        shelves2 (shelf_held (is_some e.held) n (shelf_at shelves e.list)) set
        (ap (shelf_held (is_some e.held) n) (w.sound.known e.list)
        ∙ (ap (λ (b : Bool). shelf_held b n (shelf_of (gathered (item_at nodes) (list_at nodes.lists e.list)))) (sym (seen_some e.held))
        ∙ sym (shelf_hold n (gathered (item_at nodes) (list_at nodes.lists e.list)) (seen e) p.0 p.1.0 p.1.1 holder lane)))

    pub hold_view : map (gathered (item_at nodes2)) nodes2.lists ≡ map (changed n (held_by holder lane)) (stocked nodes slots).lists
    hold_view = changed_view nodes2 made items_are lists_are spare_is (held_by holder lane) refl refl refl

  -- it is available
  module _ (again : Bool) (nodes2 : Listed Entry) (e2 : Entry) (items_are : nodes2.items ≡ slice_set nodes.items key (Some e2)) (lists_are : nodes2.lists ≡ nodes.lists) (spare_is : nodes2.spare ≡ nodes.spare)
      (list_same : e2.list ≡ e.list) (number_same : e2.copy.number ≡ e.copy.number) (to : seen e2 ≡ released again (seen e)) (bare : e2.held ≡ None) where
    free_go : (l j : ℕ) (d : Bool) → (j == key) ≡ d → has j (without key (list_at nodes.held l)) ≡ held_in l (item_at nodes2 j)
    free_go l j true d =
        ap (λ (i : ℕ). has i (without key (list_at nodes.held l))) (eqb-true j key d)
        ∙ (has_out key (list_at nodes.held l)
        ∙ (sym (ap (is_lane l) bare) ∙ (ap (held_in l) (sym (now nodes2 e2 items_are lists_are spare_is)) ∙ ap (λ (i : ℕ). held_in l (item_at nodes2 i)) (sym (eqb-true j key d)))))
    free_go l j false d = has_without j key (list_at nodes.held l) (differ j key d) ∙ (w.sound.held l j ∙ ap (held_in l) (sym (others nodes2 e2 items_are lists_are spare_is j d)))

    pub free_whole : nodes2.held ≡ map (λ ks. without key ks) nodes.held → (shelves2 : List Shelved) → shelves2 ≡ slice_set shelves e.list (shelf_free (is_some e.held) n (shelf_at shelves e.list)) → Whole nodes2 keys shelves2 slots
    free_whole held_is shelves2 set =
        let p = part (item_at nodes) nodes.lists nodes.held (get nat_eq keys) shelves w.sound n key e q is in
        changed_whole nodes2 e2 items_are lists_are spare_is (released again) to list_same number_same
        (ap length held_is ∙ length-map nodes.held (λ ks. without key ks))
        (λ l j. ap (λ (xs : List (List ℕ)). has j (list_at xs l)) held_is ∙ (ap (has j) (at_without key nodes.held l) ∙ free_go l j (j == key) refl))
        shelves2 (shelf_free (is_some e.held) n (shelf_at shelves e.list)) set
        (ap (shelf_free (is_some e.held) n) (w.sound.known e.list)
        ∙ (ap (λ (b : Bool). shelf_free b n (shelf_of (gathered (item_at nodes) (list_at nodes.lists e.list)))) (sym (seen_some e.held))
        ∙ sym (shelf_release n (gathered (item_at nodes) (list_at nodes.lists e.list)) (seen e) p.0 p.1.0 p.1.1 again)))

    pub free_view : map (gathered (item_at nodes2)) nodes2.lists ≡ map (changed n (released again)) (stocked nodes slots).lists
    free_view = changed_view nodes2 e2 items_are lists_are spare_is (released again) to list_same number_same

  -- it is gone
  module _ (nodes2 : Listed Entry) (items_are : nodes2.items ≡ slice_set nodes.items key None) (lists_are : nodes2.lists ≡ map (λ ks. without key ks) nodes.lists) where
    gone_others : Others (item_at nodes) (item_at nodes2) key
    gone_others j d = ap (λ (xs : List (Option Entry)). slice_index_or xs j None) items_are ∙ get_or-set_other nodes.items key j None None (differ j key d)

    gone : item_at nodes2 key ≡ None
    gone = ap (λ (xs : List (Option Entry)). slice_index_or xs key None) items_are ∙ get_or-set_same nodes.items key None None (item_in nodes.items key e is)

    pub gone_whole : nodes2.held ≡ map (λ ks. without key ks) nodes.held → length slots ≤ nodes2.spare → (keys2 : IndexMap ℕ ℕ S) → get nat_eq keys2 n ≡ None → ((m : ℕ) → (m == n) ≡ false → get nat_eq keys2 m ≡ get nat_eq keys m)
        → index_map_len keys2 < 2 ^ 63 → length slots ≤ spare keys2 → (shelves2 : List Shelved) → shelves2 ≡ slice_set shelves e.list (shelf_without (is_some e.held) n (shelf_at shelves e.list)) → Whole nodes2 keys2 shelves2 slots
    gone_whole held_is room keys2 out rest fewer keys_room shelves2 set =
        let p = part (item_at nodes) nodes.lists nodes.held (get nat_eq keys) shelves w.sound n key e q is in
        record {
          sound =
              removes_sound (item_at nodes) nodes.lists nodes.held (get nat_eq keys) shelves w.sound n key e q is (item_at nodes2) gone_others gone (get nat_eq keys2) out rest nodes2.lists nodes2.held lists_are held_is
              shelves2 (shelf_without (is_some e.held) n (shelf_at shelves e.list)) set
              (ap (shelf_without (is_some e.held) n) (w.sound.known e.list)
              ∙ (ap (λ (b : Bool). shelf_without b n (shelf_of (gathered (item_at nodes) (list_at nodes.lists e.list)))) (sym (seen_some e.held))
              ∙ sym (shelf_remove n (gathered (item_at nodes) (list_at nodes.lists e.list)) (seen e) p.0 p.1.0 p.1.1)));
          few = fewer;
          nodes_room = room;
          keys_room = keys_room;
        }

    pub gone_view : map (gathered (item_at nodes2)) nodes2.lists ≡ map (removed n) (stocked nodes slots).lists
    gone_view =
        ap (map (gathered (item_at nodes2))) lists_are
        ∙ map_removed (item_at nodes) (item_at nodes2) n key (removes_is (item_at nodes) nodes.lists nodes.held (get nat_eq keys) shelves w.sound n key e q is (item_at nodes2) gone_others gone) nodes.lists
