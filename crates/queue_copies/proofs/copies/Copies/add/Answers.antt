-- The copy is the last of its list, and everything else stays.
use Rattle.std.proofs.Common.{◌∙◌, ◌<◌, ◌^◌, ◌∷◌, [], slice_set, length, refl, sym, ap, subst, arith}
use Rattle.std.proofs.lemmas.List.{length-append}
use Rattle.number_tree.specs.Numbers.{has}
use Rattle.queue_copies.specs.Shelves.{Shelved, shelf_at}
use Rattle.queue_copies.specs.Copied.{Stock, IsGreatest}
use Rattle.queue_copies.proofs.Numbers.{apart, differ}
use Rattle.queue_copies.proofs.Standing.{free_small, more_greatest}
use Rattle.queue_copies.proofs.Adding.{shelf_made, list_in, last_in, new_in, at_shelf, not_available, add_whole, add_view}
use Rattle.queue_copies.proofs.copies.Copies.add.Goals as goal

pub put-requires-clause-new : goal.put-requires-clause-new
put-requires-clause-new g c =
    ap (λ (s : Shelved). has c.args.copy.number s.available) (at_shelf c.self.inside.shelves.items c.args.list c.index_mut.result.now c.index_mut.ensures.value (omega (arith, c.self.invariant.whole.sound.shelved, list_in c.self.inside.nodes c.self.inside.slots.items c.args.self.now c.self.view_is c.args.list c.requires.list)))
    ∙ not_available c.self.inside.nodes c.self.inside.keys c.self.inside.shelves.items c.self.inside.slots.items c.self.invariant.whole c.args.list c.args.copy (list_in c.self.inside.nodes c.self.inside.slots.items c.args.self.now c.self.view_is c.args.list c.requires.list) (new_in c.self.inside.nodes c.self.inside.slots.items c.args.self.now c.self.view_is c.args.copy.number c.requires.greatest) (last_in c.self.inside.nodes c.self.inside.slots.items c.args.self.now c.self.view_is c.args.list c.args.copy.number c.requires.greatest)

pub put-requires-clause-few : goal.put-requires-clause-few
put-requires-clause-few g c = subst (λ (s : Shelved). length s.available < 2 ^ 63) (sym (at_shelf c.self.inside.shelves.items c.args.list c.index_mut.result.now c.index_mut.ensures.value (omega (arith, c.self.invariant.whole.sound.shelved, list_in c.self.inside.nodes c.self.inside.slots.items c.args.self.now c.self.view_is c.args.list c.requires.list)))) (free_small c.self.inside.nodes c.self.inside.keys c.self.inside.shelves.items c.self.inside.slots.items c.self.invariant.whole c.args.list)

pub invariant_of-self : goal.invariant_of-self
invariant_of-self g c =
    record {
      whole =
          add_whole c.self.inside.nodes c.self.inside.keys c.self.inside.shelves.items c.self.inside.slots.items c.self.invariant.whole c.args.list c.args.copy (list_in c.self.inside.nodes c.self.inside.slots.items c.args.self.now c.self.view_is c.args.list c.requires.list) (new_in c.self.inside.nodes c.self.inside.slots.items c.args.self.now c.self.view_is c.args.copy.number c.requires.greatest) (last_in c.self.inside.nodes c.self.inside.slots.items c.args.self.now c.self.view_is c.args.list c.args.copy.number c.requires.greatest)
          c.push_back-key.new.self c.push_back-key.result c.push_back-key.ensures.item c.push_back-key.ensures.lists c.push_back-key.ensures.held
          c.insert.new.self c.in-Ok.ensures.updates.1 (λ m d. c.in-Ok.ensures.updates.2 m (apart c.args.copy.number m (λ i. differ m c.args.copy.number d (sym i)))) (omega (arith, c.len.ensures.len, c.len.ensures.small))
          c.pop.new.self.items
          (omega (arith, c.push_back-key.ensures.spare, c.self.invariant.whole.nodes_room, ap length c.in-Some.ensures.items, length-append c.pop.new.self.items (c.in-Some.slot ∷ [])))
          (omega (arith, c.in-Ok.ensures.spare, c.self.invariant.whole.keys_room, ap length c.in-Some.ensures.items, length-append c.pop.new.self.items (c.in-Some.slot ∷ [])))
          (slice_set c.self.inside.shelves.items c.args.list c.put.new.self) c.put.new.self refl
          (shelf_made c.args.copy.number c.put.new.self c.index_mut.result.now (shelf_at c.self.inside.shelves.items c.args.list) c.put.ensures.available c.put.ensures.held
          (at_shelf c.self.inside.shelves.items c.args.list c.index_mut.result.now c.index_mut.ensures.value (omega (arith, c.self.invariant.whole.sound.shelved, list_in c.self.inside.nodes c.self.inside.slots.items c.args.self.now c.self.view_is c.args.list c.requires.list))));
      greatest_of =
          more_greatest c.self.inside.nodes c.self.inside.keys c.self.inside.shelves.items c.self.inside.slots.items c.self.invariant.whole c.insert.new.self c.args.copy.number
          (λ m d. c.in-Ok.ensures.updates.2 m (apart c.args.copy.number m (λ i. differ m c.args.copy.number d (sym i)))) (subst (λ (v : Stock). IsGreatest c.args.copy.number v.lists) (sym c.self.view_is) c.requires.greatest);
    }

pub returns-clause-lists : goal.returns-clause-lists
returns-clause-lists g c =
    rw (← c.self.view_is)
    (add_view c.self.inside.nodes c.self.inside.keys c.self.inside.shelves.items c.self.inside.slots.items c.self.invariant.whole c.args.list c.args.copy (list_in c.self.inside.nodes c.self.inside.slots.items c.args.self.now c.self.view_is c.args.list c.requires.list) (new_in c.self.inside.nodes c.self.inside.slots.items c.args.self.now c.self.view_is c.args.copy.number c.requires.greatest) (last_in c.self.inside.nodes c.self.inside.slots.items c.args.self.now c.self.view_is c.args.list c.args.copy.number c.requires.greatest)
    c.push_back-key.new.self c.push_back-key.result c.push_back-key.ensures.item c.push_back-key.ensures.lists c.push_back-key.ensures.held)
