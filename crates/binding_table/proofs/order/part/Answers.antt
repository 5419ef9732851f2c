-- The points are where the sides change.
use Rattle.std.proofs.Common.{rules, of_calls, ℕ, ◌+◌, length, ap, sym, ◌∙◌}
use Rattle.std.proofs.lemmas.Fn.{always_returns_same}
use Rattle.std.specs.Ordering.{is_lt, is_le, on}
use Rattle.slab.specs.Slab.{get}
use Rattle.binding_table.specs.Spots.{spot, order, side}
use Rattle.sorted_map.specs.Cuts.{slot_side, collect, within}
use Rattle.binding_table.specs.declared.row.Row.{Row}
use Rattle.binding_table.proofs.Cuts.{cut_rises}
use Rattle.sorted_map.proofs.Sorting.{low_is, high_is}
use Rattle.binding_table.proofs.order.part.Goals as goal

pub returns-clause-before : goal.returns-clause-before
returns-clause-before g c =
    low_is (on spot (order c.args.by)) (λ (r : Row g.row.A.Denot). side c.args.by c.args.cut (spot r)) (cut_rises c.args.by c.args.cut) (get c.args.rows.now) c.args.keys.now c.requires c.partition_point-low.result c.partition_point-low.ensures.bound
    (c.partition_point-low.ensures.partitioned (λ k. is_lt (slot_side (λ (r : Row g.row.A.Denot). side c.args.by c.args.cut (spot r)) (get c.args.rows.now k))) (always_returns_same _ _ _ (λ a r f k. search (rules, of_calls))))

pub returns-clause-within : goal.returns-clause-within
returns-clause-within g c =
    high_is (on spot (order c.args.by)) (λ (r : Row g.row.A.Denot). side c.args.by c.args.cut (spot r)) (cut_rises c.args.by c.args.cut) (get c.args.rows.now) c.args.keys.now c.requires c.partition_point-high.result c.partition_point-high.ensures.bound
    (c.partition_point-high.ensures.partitioned (λ k. is_le (slot_side (λ (r : Row g.row.A.Denot). side c.args.by c.args.cut (spot r)) (get c.args.rows.now k))) (always_returns_same _ _ _ (λ a r f k. search (rules, of_calls))))
    ∙ ap (λ (n : ℕ). n + length (within (λ (r : Row g.row.A.Denot). side c.args.by c.args.cut (spot r)) (collect (get c.args.rows.now) c.args.keys.now))) (sym (returns-clause-before g c))
