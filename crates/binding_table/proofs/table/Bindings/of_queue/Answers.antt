-- A row of the cut is one of the queue.
use Rattle.std.proofs.Common.{◌∙◌, List, ℕ, filter, ap}
use Rattle.slab.specs.Slab.{get}
use Rattle.sorted_map.specs.Cuts.{collect}
use Rattle.binding_table.specs.Rows.{Bound, is_of_queue}
use Rattle.binding_table.proofs.Crossing.{eq_parts}
use Rattle.sorted_map.proofs.Cutting.{filter_same}
use Rattle.binding_table.proofs.table.Bindings.of_queue.Goals as goal

pub returns : goal.returns
returns g c =
    c.within.ensures
    ∙ (filter_same _ (is_of_queue c.args.exchange c.args.queue.now) (λ r. eq_parts r.exchange c.args.exchange r.binding.queue c.args.queue.now) (collect (get c.self.inside.rows) c.as_slice.result.now)
    ∙ (ap (λ (ks : List ℕ). filter (is_of_queue c.args.exchange c.args.queue.now) (collect (get c.self.inside.rows) ks)) c.as_slice.ensures.value
    ∙ ap (λ (v : Bound g.row.A.Denot). filter (is_of_queue c.args.exchange c.args.queue.now) v.rows) c.self.view_is))
