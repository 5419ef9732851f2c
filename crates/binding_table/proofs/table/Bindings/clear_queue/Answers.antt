-- A row of the cut is one of the queue.
use Rattle.std.proofs.Common.{◌∙◌, filter, not, ap}
use Rattle.slab.specs.Slab.{get}
use Rattle.sorted_map.specs.Cuts.{collect}
use Rattle.binding_table.specs.Rows.{Bound, is_of_queue}
use Rattle.binding_table.proofs.Crossing.{eq_parts}
use Rattle.sorted_map.proofs.Cutting.{filter_same}
use Rattle.binding_table.proofs.table.Bindings.clear_queue.Goals as goal

pub returns-clause-rows : goal.returns-clause-rows
returns-clause-rows g c =
    c.clear_cut.ensures.rows
    ∙ (filter_same _ (λ r. not (is_of_queue c.args.exchange c.args.queue.now r)) (λ r. ap not (eq_parts r.exchange c.args.exchange r.binding.queue c.args.queue.now)) (collect (get c.self.inside.rows) c.self.inside.by_queue.items)
    ∙ ap (λ (v : Bound g.row.A.Denot). filter (λ r. not (is_of_queue c.args.exchange c.args.queue.now r)) v.rows) c.self.view_is)
