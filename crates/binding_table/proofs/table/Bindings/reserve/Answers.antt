-- Rows and keys are as they were.
use Rattle.std.proofs.Common.{List, ℕ, sym, subst}
use Rattle.slab.specs.Slab.{Slab, get}
use Rattle.binding_table.specs.declared.row.Row.{Row}
use Rattle.binding_table.specs.Rows.{Kept}
use Rattle.binding_table.proofs.table.Bindings.reserve.Goals as goal

pub invariant_of-self-in_err-reserve-3 : goal.invariant_of-self-in_err-reserve-3
invariant_of-self-in_err-reserve-3 g c =
    subst (λ (ks : List ℕ). Kept (get c.reserve.new.self) ks c.reserve-3.new.self.items) (sym c.reserve-2.ensures.items)
    (subst (λ (ls : List ℕ). Kept (get c.reserve.new.self) c.self.inside.by_queue.items ls) (sym c.reserve-3.ensures.items)
    (subst (λ (s : Slab (Row g.row.A.Denot)). Kept (get s) c.self.inside.by_queue.items c.self.inside.by_key.items) (sym c.reserve.ensures.rest_kept) c.self.invariant))
