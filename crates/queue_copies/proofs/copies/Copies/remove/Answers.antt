-- The copy is gone, and everything else stays.
use Rattle.std.proofs.Common.{◌∙◌, sym, ap, subst, arith}
use Rattle.queue_copies.specs.Copied.{Stock, IsThere, find_in, holder_of, hold_of}
use Rattle.queue_copies.proofs.Numbers.{apart, differ}
use Rattle.queue_copies.proofs.Standing.{is_live, in_shelves, is_free, is_counted, shelf_rising, unreached, holder_is, fewer_greatest}
use Rattle.queue_copies.proofs.Changing.{gone_whole, gone_view}
use Rattle.queue_copies.proofs.copies.Copies.remove.Goals as goal

pub unlink-list-requires : goal.unlink-list-requires
unlink-list-requires g c =
    is_live c.self.inside.nodes c.self.inside.keys c.self.inside.shelves.items c.self.inside.slots.items c.self.invariant.whole c.args.number c.in-Some.key (sym c.swap_remove.ensures.value ∙ c.in-Some.is)

pub drop_from-requires-clause-list : goal.drop_from-requires-clause-list
drop_from-requires-clause-list g c =
    in_shelves c.self.inside.nodes c.self.inside.keys c.self.inside.shelves.items c.self.inside.slots.items c.self.invariant.whole c.args.number c.in-Some.key c.unlink-list.result (sym c.swap_remove.ensures.value ∙ c.in-Some.is) c.unlink-list.ensures.item

pub drop_from-requires-clause-free : goal.drop_from-requires-clause-free
drop_from-requires-clause-free g c t =
    is_free c.self.inside.nodes c.self.inside.keys c.self.inside.shelves.items c.self.inside.slots.items c.self.invariant.whole c.args.number c.in-Some.key c.unlink-list.result (sym c.swap_remove.ensures.value ∙ c.in-Some.is) c.unlink-list.ensures.item t

pub drop_from-requires-clause-some : goal.drop_from-requires-clause-some
drop_from-requires-clause-some g c t =
    is_counted c.self.inside.nodes c.self.inside.keys c.self.inside.shelves.items c.self.inside.slots.items c.self.invariant.whole c.args.number c.in-Some.key c.unlink-list.result (sym c.swap_remove.ensures.value ∙ c.in-Some.is) c.unlink-list.ensures.item t

pub drop_from-requires-clause-rising : goal.drop_from-requires-clause-rising
drop_from-requires-clause-rising g c = shelf_rising c.self.inside.nodes c.self.inside.keys c.self.inside.shelves.items c.self.inside.slots.items c.self.invariant.whole c.unlink-list.result.list

pub unreachable-requires : goal.unreachable-requires
unreachable-requires g c =
    unreached c.self.inside.nodes c.self.inside.keys c.self.inside.shelves.items c.self.inside.slots.items c.self.invariant.whole c.args.number (sym c.swap_remove.ensures.value ∙ c.in-None.is)
    (subst (λ (v : Stock). IsThere c.args.number v.lists) (sym c.self.view_is) c.requires)

pub invariant_of-self : goal.invariant_of-self
invariant_of-self g c =
    record {
      whole =
          gone_whole c.self.inside.nodes c.self.inside.keys c.self.inside.shelves.items c.self.inside.slots.items c.self.invariant.whole c.args.number c.in-Some.key c.unlink-list.result (sym c.swap_remove.ensures.value ∙ c.in-Some.is) c.unlink-list.ensures.item
          c.unlink-list.new.self c.unlink-list.ensures.items c.unlink-list.ensures.lists c.unlink-list.ensures.held (omega (arith, c.self.invariant.whole.nodes_room, c.unlink-list.ensures.spare))
          c.swap_remove.new.self c.swap_remove.ensures.updates.1 (λ m d. c.swap_remove.ensures.updates.2 m (apart c.args.number m (λ i. differ m c.args.number d (sym i)))) (omega (arith, c.self.invariant.whole.few, c.swap_remove.ensures.len)) (omega (arith, c.self.invariant.whole.keys_room, c.swap_remove.ensures.room.0))
          c.drop_from.new.shelves.items c.drop_from.ensures.shelves;
      greatest_of = fewer_greatest c.self.inside.keys c.swap_remove.new.self c.args.number c.self.inside.greatest c.self.invariant.greatest_of c.swap_remove.ensures.updates.1 (λ m d. c.swap_remove.ensures.updates.2 m (apart c.args.number m (λ i. differ m c.args.number d (sym i))));
    }

pub returns-clause-lists : goal.returns-clause-lists
returns-clause-lists g c =
    rw (← c.self.view_is)
    (gone_view c.self.inside.nodes c.self.inside.keys c.self.inside.shelves.items c.self.inside.slots.items c.self.invariant.whole c.args.number c.in-Some.key c.unlink-list.result (sym c.swap_remove.ensures.value ∙ c.in-Some.is) c.unlink-list.ensures.item
    c.unlink-list.new.self c.unlink-list.ensures.items c.unlink-list.ensures.lists)

pub returns-clause-before : goal.returns-clause-before
returns-clause-before g c =
    c.drop_from.ensures.holder
    ∙ (holder_is c.self.inside.nodes c.self.inside.keys c.self.inside.shelves.items c.self.inside.slots.items c.self.invariant.whole c.args.number c.in-Some.key c.unlink-list.result (sym c.swap_remove.ensures.value ∙ c.in-Some.is) c.unlink-list.ensures.item
    ∙ ap (λ (v : Stock). holder_of (hold_of (find_in c.args.number v.lists))) c.self.view_is)
