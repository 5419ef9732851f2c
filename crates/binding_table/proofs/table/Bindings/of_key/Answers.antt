-- A row of the cut is one with the key, and they come by queue.
use Rattle.std.proofs.Common.{◌∙◌, List, ℕ, filter, ap}
use Rattle.slab.specs.Slab.{get}
use Rattle.sorted_map.specs.Cuts.{collect}
use Rattle.binding_table.specs.Rows.{Bound, has_key}
use Rattle.binding_table.proofs.Crossing.{eq_parts, crossed}
use Rattle.sorted_map.proofs.Cutting.{filter_same}
use Rattle.binding_table.proofs.table.Bindings.of_key.Goals as goal

pub returns : goal.returns
returns g c =
    c.within.ensures
    ∙ (filter_same _ (has_key c.args.exchange c.args.key.now) (λ r. eq_parts r.exchange c.args.exchange r.binding.key c.args.key.now) (collect (get c.self.inside.rows) c.as_slice.result.now)
    ∙ (ap (λ (ks : List ℕ). filter (has_key c.args.exchange c.args.key.now) (collect (get c.self.inside.rows) ks)) c.as_slice.ensures.value
    ∙ (crossed c.args.exchange c.args.key.now (get c.self.inside.rows) c.self.inside.by_queue.items c.self.inside.by_key.items c.self.invariant
    ∙ ap (λ (v : Bound g.row.A.Denot). filter (has_key c.args.exchange c.args.key.now) v.rows) c.self.view_is)))
