-- There are so many empty lists more.
use Rattle.std.proofs.Common.{◌∙◌, ◌++◌, replicate, ap, List}
use Rattle.queue_copies.specs.Shelves.{Shelved, empty_shelf}
use Rattle.queue_copies.proofs.Widening.{wide_whole, wide_view}
use Rattle.queue_copies.proofs.copies.Copies.widen.Goals as goal

pub invariant_of-self-2 : goal.invariant_of-self-2
invariant_of-self-2 c =
    record {
      whole =
          wide_whole c.self.inside.nodes c.self.inside.keys c.self.inside.shelves.items c.self.inside.slots.items c.self.invariant.whole c.args.lists c.widen.new.self c.push_empty.new.shelves.items
          c.widen.ensures.items c.in_ok-widen.ensures.lists c.in_ok-widen.ensures.held c.widen.ensures.spare (c.push_empty.ensures ∙ ap (λ (ss : List Shelved). ss ++ replicate c.args.lists empty_shelf) c.reserve.ensures.items);
      greatest_of = c.self.invariant.greatest_of;
    }

pub returns-clause-lists : goal.returns-clause-lists
returns-clause-lists c =
    rw (← c.self.view_is)
    (wide_view c.self.inside.nodes c.self.inside.keys c.self.inside.shelves.items c.self.inside.slots.items c.args.lists c.widen.new.self c.widen.ensures.items c.in_ok-widen.ensures.lists)
