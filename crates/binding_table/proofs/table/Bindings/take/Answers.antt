-- At the cut's first index stands the row.
use Rattle.std.proofs.Common.{arith, ◌≡◌, ◌<◌, ◌+◌, ◌∙◌, ◌∷◌, ℕ, List, [], Some, length, slice_index_or, ap, subst}
use Rattle.std.specs.Ordering.{on}
use Rattle.slab.specs.Slab.{get}
use Rattle.binding_table.specs.declared.order.By.TheVariants as by
use Rattle.binding_table.specs.declared.order.Cut.TheVariants as cut
use Rattle.binding_table.specs.declared.row.Row.{Row}
use Rattle.binding_table.specs.Spots.{spot, order, queue_order}
use Rattle.sorted_map.specs.Cuts.{collect, before, within}
use Rattle.binding_table.specs.Rows.{Bound, first_of, find, out}
use Rattle.binding_table.proofs.Cuts.{cut_rises, spot_apart}
use Rattle.sorted_map.proofs.Sorting.{shown_length}
use Rattle.sorted_map.proofs.Cutting.{one_taken, none_taken, at_cut, cut_bound}
use Rattle.binding_table.proofs.table.Bindings.take.Goals as goal

pub returns-then-low-high-clause-rows : goal.returns-then-low-high-clause-rows
returns-then-low-high-clause-rows g c =
    subst (λ (v : Bound g.row.A.Denot). v.rows ≡ out (record { exchange = c.args.exchange; queue = c.args.queue.now; key = c.args.key.now }) v.rows) c.self.view_is
    (none_taken (on spot (order by.Queue)) (λ (r : Row g.row.A.Denot). queue_order (spot r) (record { exchange = c.args.exchange; queue = c.args.queue.now; key = c.args.key.now })) (cut_rises by.Queue (cut.Both c.args.exchange c.args.queue c.args.key)) (collect (get c.self.inside.rows) c.self.inside.by_queue.items) c.self.invariant.by_queue.sorted (omega (arith, c.if-low-high.true, (subst (λ (ks : List ℕ). c.part-low.result.1 ≡ c.part-low.result.0 + length (within (λ (r : Row g.row.A.Denot). queue_order (spot r) (record { exchange = c.args.exchange; queue = c.args.queue.now; key = c.args.key.now })) (collect (get c.self.inside.rows) ks))) c.as_slice.ensures.value c.part-low.ensures.within))))

pub take_row-row-requires-clause-index : goal.take_row-row-requires-clause-index
take_row-row-requires-clause-index g c =
    let some : 0 < length (within (λ (r : Row g.row.A.Denot). queue_order (spot r) (record { exchange = c.args.exchange; queue = c.args.queue.now; key = c.args.key.now })) (collect (get c.self.inside.rows) c.self.inside.by_queue.items)) = omega (arith, c.if-low-high.false, (subst (λ (ks : List ℕ). c.part-low.result.1 ≡ c.part-low.result.0 + length (within (λ (r : Row g.row.A.Denot). queue_order (spot r) (record { exchange = c.args.exchange; queue = c.args.queue.now; key = c.args.key.now })) (collect (get c.self.inside.rows) ks))) c.as_slice.ensures.value c.part-low.ensures.within)) in
    omega (arith, shown_length (get c.self.inside.rows) c.self.inside.by_queue.items (collect (get c.self.inside.rows) c.self.inside.by_queue.items) c.self.invariant.by_queue.shown, cut_bound (on spot (order by.Queue)) (λ (r : Row g.row.A.Denot). queue_order (spot r) (record { exchange = c.args.exchange; queue = c.args.queue.now; key = c.args.key.now })) (cut_rises by.Queue (cut.Both c.args.exchange c.args.queue c.args.key)) (collect (get c.self.inside.rows) c.self.inside.by_queue.items) c.self.invariant.by_queue.sorted, (subst (λ (ks : List ℕ). c.part-low.result.0 ≡ length (before (λ (r : Row g.row.A.Denot). queue_order (spot r) (record { exchange = c.args.exchange; queue = c.args.queue.now; key = c.args.key.now })) (collect (get c.self.inside.rows) ks))) c.as_slice.ensures.value c.part-low.ensures.before), some)

pub returns-clause-rows : goal.returns-clause-rows
returns-clause-rows g c =
    c.take_row-row.ensures.rows
    ∙ (one_taken (on spot (order by.Queue)) (λ (r : Row g.row.A.Denot). queue_order (spot r) (record { exchange = c.args.exchange; queue = c.args.queue.now; key = c.args.key.now })) (spot_apart (record { exchange = c.args.exchange; queue = c.args.queue.now; key = c.args.key.now })) (cut_rises by.Queue (cut.Both c.args.exchange c.args.queue c.args.key)) (collect (get c.self.inside.rows) c.self.inside.by_queue.items) c.self.invariant.by_queue.sorted c.part-low.result.0 (subst (λ (ks : List ℕ). c.part-low.result.0 ≡ length (before (λ (r : Row g.row.A.Denot). queue_order (spot r) (record { exchange = c.args.exchange; queue = c.args.queue.now; key = c.args.key.now })) (collect (get c.self.inside.rows) ks))) c.as_slice.ensures.value c.part-low.ensures.before) (omega (arith, c.if-low-high.false, (subst (λ (ks : List ℕ). c.part-low.result.1 ≡ c.part-low.result.0 + length (within (λ (r : Row g.row.A.Denot). queue_order (spot r) (record { exchange = c.args.exchange; queue = c.args.queue.now; key = c.args.key.now })) (collect (get c.self.inside.rows) ks))) c.as_slice.ensures.value c.part-low.ensures.within)))
    ∙ ap (λ (v : Bound g.row.A.Denot). out (record { exchange = c.args.exchange; queue = c.args.queue.now; key = c.args.key.now }) v.rows) c.self.view_is)

-- the first of some rows is found
found_first : {A : Type 0} (row : Row A) (rows : List (Row A)) → 0 < length rows → row ≡ slice_index_or rows 0 row → Some row.binding ≡ first_of rows
found_first row [] lt e = absurd (omega (arith, lt))
found_first {A} row (r ∷ rs) lt e = ap (λ (r : Row A). Some r.binding) e

pub returns-clause-binding : goal.returns-clause-binding
returns-clause-binding g c =
    found_first c.take_row-row.result (within (λ (r : Row g.row.A.Denot). queue_order (spot r) (record { exchange = c.args.exchange; queue = c.args.queue.now; key = c.args.key.now })) (collect (get c.self.inside.rows) c.self.inside.by_queue.items)) (omega (arith, c.if-low-high.false, (subst (λ (ks : List ℕ). c.part-low.result.1 ≡ c.part-low.result.0 + length (within (λ (r : Row g.row.A.Denot). queue_order (spot r) (record { exchange = c.args.exchange; queue = c.args.queue.now; key = c.args.key.now })) (collect (get c.self.inside.rows) ks))) c.as_slice.ensures.value c.part-low.ensures.within))) (at_cut (on spot (order by.Queue)) (λ (r : Row g.row.A.Denot). queue_order (spot r) (record { exchange = c.args.exchange; queue = c.args.queue.now; key = c.args.key.now })) (cut_rises by.Queue (cut.Both c.args.exchange c.args.queue c.args.key)) (collect (get c.self.inside.rows) c.self.inside.by_queue.items) c.self.invariant.by_queue.sorted c.part-low.result.0 (subst (λ (ks : List ℕ). c.part-low.result.0 ≡ length (before (λ (r : Row g.row.A.Denot). queue_order (spot r) (record { exchange = c.args.exchange; queue = c.args.queue.now; key = c.args.key.now })) (collect (get c.self.inside.rows) ks))) c.as_slice.ensures.value c.part-low.ensures.before) (omega (arith, c.if-low-high.false, (subst (λ (ks : List ℕ). c.part-low.result.1 ≡ c.part-low.result.0 + length (within (λ (r : Row g.row.A.Denot). queue_order (spot r) (record { exchange = c.args.exchange; queue = c.args.queue.now; key = c.args.key.now })) (collect (get c.self.inside.rows) ks))) c.as_slice.ensures.value c.part-low.ensures.within))) c.take_row-row.result c.take_row-row.ensures.row)
    ∙ ap (λ (v : Bound g.row.A.Denot). find (record { exchange = c.args.exchange; queue = c.args.queue.now; key = c.args.key.now }) v.rows) c.self.view_is
