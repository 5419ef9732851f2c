-- What the fields show is in order.
use Rattle.std.proofs.Common.{subst}
use Rattle.queue_copies.specs.Copied.{Stock, Ordered}
use Rattle.queue_copies.proofs.Purging.{is_ordered}
use Rattle.queue_copies.proofs.copies.Copies.first.Goals as goal

pub returns-in-Some-clause-ordered : goal.returns-in-Some-clause-ordered
returns-in-Some-clause-ordered g c =
    subst (λ (v : Stock). Ordered v.lists) c.self.view_is (is_ordered c.self.inside.nodes c.self.inside.keys c.self.inside.shelves.items c.self.inside.slots.items c.self.invariant.whole)

pub returns-in-None-clause-ordered : goal.returns-in-None-clause-ordered
returns-in-None-clause-ordered g c =
    subst (λ (v : Stock). Ordered v.lists) c.self.view_is (is_ordered c.self.inside.nodes c.self.inside.keys c.self.inside.shelves.items c.self.inside.slots.items c.self.invariant.whole)
