-- Sorted names stay sorted.
use Rattle.std.proofs.Common.{sym, subst}
use Rattle.name_map.specs.Named.{Sorted}
use Rattle.name_map.proofs.Placing.{sorted_remove}
use Rattle.name_map.proofs.map.NameMap.take_at.Goals as goal

pub invariant_of-self : goal.invariant_of-self
invariant_of-self g c = subst Sorted (sym c.remove.ensures.items) (sorted_remove c.self.inside.entries.items c.args.index c.self.invariant)
