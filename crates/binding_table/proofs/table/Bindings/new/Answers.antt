-- Without keys both orders are empty.
use Rattle.slab.specs.Slab.{get}
use Rattle.binding_table.proofs.Keeping.{empty_kept}
use Rattle.binding_table.proofs.table.Bindings.new.Goals as goal

pub invariant_of-result : goal.invariant_of-result
invariant_of-result g c = empty_kept (get c.new.result) c.new-2.result.items c.new-3.result.items c.new-2.ensures.items c.new-3.ensures.items
