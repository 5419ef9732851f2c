-- The first node of the list begins it.
use Rattle.std.proofs.Common.{nat_eq}
use Rattle.indexmap.specs.IndexMap.{get}
use Rattle.queue_copies.proofs.Iterating.{first_stands}
use Rattle.queue_copies.proofs.copies.Copies.iter.Goals as goal

pub new-requires : goal.new-requires
new-requires c = first_stands c.self.inside.nodes (get nat_eq c.self.inside.keys) c.self.inside.shelves.items c.self.invariant.whole.sound c.args.list c.first.result c.first.ensures.first
