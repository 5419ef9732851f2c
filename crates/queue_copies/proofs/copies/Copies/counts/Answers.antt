-- What the fields show is in order.
use Rattle.std.proofs.Common.{subst}
use Rattle.queue_copies.specs.Copied.{Stock, Ordered}
use Rattle.queue_copies.proofs.Purging.{is_ordered}
use Rattle.queue_copies.proofs.copies.Copies.counts.Goals as goal

pub returns-clause-ordered : goal.returns-clause-ordered
returns-clause-ordered c =
    subst (λ (v : Stock). Ordered v.lists) c.self.view_is (is_ordered c.self.inside.nodes c.self.inside.keys c.self.inside.shelves.items c.self.inside.slots.items c.self.invariant.whole)
