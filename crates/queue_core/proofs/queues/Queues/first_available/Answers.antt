-- A queue's list is one of the lists.
use Rattle.std.proofs.Common.{◌∙◌, sym, ap}
use Rattle.std.specs.Option.{option_copied}
use Rattle.queue_core.proofs.Standing.{found_within}
use Rattle.queue_core.proofs.queues.Queues.first_available.Goals as goal

pub first_available-requires : goal.first_available-requires
first_available-requires c = found_within c.self.inside.names.entries c.self.inside.names.free c.self.inside.names.count c.self.inside.copies.lists c.self.invariant c.args.name.now c.in-Some.entry.now (sym c.get.ensures ∙ ap option_copied c.in-Some.is)
