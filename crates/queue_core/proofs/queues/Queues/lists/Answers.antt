-- What the type keeps.
use Rattle.std.proofs.Common.{subst}
use Rattle.queue_core.specs.Queues.{Queued, OwnLists}
use Rattle.queue_core.proofs.Standing.{own_lists}
use Rattle.queue_core.proofs.queues.Queues.lists.Goals as goal

pub returns-clause-own : goal.returns-clause-own
returns-clause-own c =
    subst (λ (v : Queued). OwnLists v.entries v.lists) c.self.view_is
    (own_lists c.self.inside.names.entries c.self.inside.names.free c.self.inside.names.count c.self.inside.copies.lists c.self.invariant)
