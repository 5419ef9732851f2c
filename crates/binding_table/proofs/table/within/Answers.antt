-- The keys between the two points are those of the cut.
use Rattle.std.proofs.Common.{◌∙◌, List, map, Some, sym, ap}
use Rattle.std.specs.Ordering.{on}
use Rattle.slab.specs.Slab.{get}
use Rattle.binding_table.specs.declared.row.Row.{Row}
use Rattle.binding_table.specs.Spots.{spot, order, side}
use Rattle.binding_table.proofs.Cuts.{cut_rises}
use Rattle.sorted_map.proofs.Cutting.{cut_shown, cut_collected}
use Rattle.binding_table.proofs.table.within.Goals as goal

pub new-requires : goal.new-requires
new-requires g c =
    cut_shown (on spot (order c.args.by)) (λ (r : Row g.row.A.Denot). side c.args.by c.args.cut (spot r)) (cut_rises c.args.by c.args.cut) (get c.args.rows.now) c.args.keys.now c.requires c.part-low.result.0 c.part-low.result.1 c.part-low.ensures.before c.part-low.ensures.within
    ∙ ap (λ (rows : List (Row g.row.A.Denot)). map Some rows) (sym (cut_collected (on spot (order c.args.by)) (λ (r : Row g.row.A.Denot). side c.args.by c.args.cut (spot r)) (cut_rises c.args.by c.args.cut) (get c.args.rows.now) c.args.keys.now c.requires c.part-low.result.0 c.part-low.result.1 c.part-low.ensures.before c.part-low.ensures.within))

pub returns : goal.returns
returns g c =
    c.new.ensures
    ∙ cut_collected (on spot (order c.args.by)) (λ (r : Row g.row.A.Denot). side c.args.by c.args.cut (spot r)) (cut_rises c.args.by c.args.cut) (get c.args.rows.now) c.args.keys.now c.requires c.part-low.result.0 c.part-low.result.1 c.part-low.ensures.before c.part-low.ensures.within
