-- The first of a holder's list is held there, and none is where the list is empty.
use Rattle.std.proofs.Common.{◌≡◌, ◌∙◌, Some, sym, subst}
use Rattle.queue_copies.specs.Copied.{Stock, find_in, hold_of, lane_of}
use Rattle.queue_copies.proofs.Finding.{held_first, held_none}
use Rattle.queue_copies.proofs.copies.Copies.first_held.Goals as goal

pub returns-in-Some-clause-some : goal.returns-in-Some-clause-some
returns-in-Some-clause-some g c =
    subst (λ (v : Stock). lane_of (hold_of (find_in c.get.result.now.copy.number v.lists)) ≡ Some c.args.lane) c.self.view_is
    (held_first c.self.inside.nodes c.self.inside.keys c.self.inside.shelves.items c.self.inside.slots.items c.self.invariant.whole c.in-Some.key c.args.lane c.get.result.now (sym c.first_held.ensures.first ∙ c.in-Some.is) c.get.ensures.item)

pub returns-in-None-clause-none : goal.returns-in-None-clause-none
returns-in-None-clause-none g c number q =
    held_none c.self.inside.nodes c.self.inside.keys c.self.inside.shelves.items c.self.inside.slots.items c.self.invariant.whole c.args.lane (sym c.first_held.ensures.first ∙ c.in-None.is) number
    (subst (λ (v : Stock). lane_of (hold_of (find_in number v.lists)) ≡ Some c.args.lane) (sym c.self.view_is) q)
