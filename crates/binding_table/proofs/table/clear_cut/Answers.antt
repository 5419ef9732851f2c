-- At the cut's first index its rows go, one after another.
use Rattle.std.proofs.Common.{arith, ◌≡◌, ◌+◌, ◌∙◌, ℕ, List, length, refl, sym, ap, subst}
use Rattle.std.specs.Ordering.{on}
use Rattle.std.specs.List.{remove}
use Rattle.slab.specs.Slab.{get}
use Rattle.binding_table.specs.declared.order.By.TheVariants as by
use Rattle.binding_table.specs.declared.row.Row.{Row}
use Rattle.binding_table.specs.Spots.{spot, order, side}
use Rattle.sorted_map.specs.Cuts.{collect, before, within, behind}
use Rattle.binding_table.proofs.Cuts.{cut_rises}
use Rattle.sorted_map.proofs.Sorting.{parts, shown_length}
use Rattle.sorted_map.proofs.Cutting.{take_next, more_left, all_taken, outside_is}
use Rattle.binding_table.proofs.table.clear_cut.Goals as goal

pub loop-taken-init : goal.loop-taken-init
loop-taken-init g c = record {
  kept = c.requires.kept;
  rows = parts (λ (r : Row g.row.A.Denot). side by.Queue c.args.cut (spot r)) (on spot (order by.Queue)) (cut_rises by.Queue c.args.cut) (collect (get c.args.rows.now) c.args.by_queue.now.items) c.requires.kept.by_queue.sorted;
  len = omega arith;
  len_by_queue = omega arith;
  len_by_key = omega arith;
  capacity = refl;
  capacity_by_queue = refl;
  capacity_by_key = refl;
}

pub take_row-requires-clause-index : goal.take_row-requires-clause-index
take_row-requires-clause-index g c =
    omega (
      arith,
      subst (λ (ks : List ℕ). c.part-low.result.0 ≡ length (before (λ (r : Row g.row.A.Denot). side by.Queue c.args.cut (spot r)) (collect (get c.args.rows.now) ks))) c.as_slice.ensures.value c.part-low.ensures.before,
      subst (λ (ks : List ℕ). c.part-low.result.1 ≡ c.part-low.result.0 + length (within (λ (r : Row g.row.A.Denot). side by.Queue c.args.cut (spot r)) (collect (get c.args.rows.now) ks))) c.as_slice.ensures.value c.part-low.ensures.within,
      shown_length (get c.loop-taken.rows) c.loop-taken.by_queue.items (collect (get c.loop-taken.rows) c.loop-taken.by_queue.items) c.loop-taken.invariant.kept.by_queue.shown,
      more_left c.loop-taken.taken (before (λ (r : Row g.row.A.Denot). side by.Queue c.args.cut (spot r)) (collect (get c.args.rows.now) c.args.by_queue.now.items)) (within (λ (r : Row g.row.A.Denot). side by.Queue c.args.cut (spot r)) (collect (get c.args.rows.now) c.args.by_queue.now.items)) (behind (λ (r : Row g.row.A.Denot). side by.Queue c.args.cut (spot r)) (collect (get c.args.rows.now) c.args.by_queue.now.items)) (collect (get c.loop-taken.rows) c.loop-taken.by_queue.items) c.loop-taken.invariant.rows (omega (arith, c.loop-taken-test.true, subst (λ (ks : List ℕ). c.part-low.result.1 ≡ c.part-low.result.0 + length (within (λ (r : Row g.row.A.Denot). side by.Queue c.args.cut (spot r)) (collect (get c.args.rows.now) ks))) c.as_slice.ensures.value c.part-low.ensures.within)),
    )

pub loop-taken-preserved : goal.loop-taken-preserved
loop-taken-preserved g c = record {
  kept = c.take_row.ensures.kept;
  rows = c.take_row.ensures.rows
      ∙ (ap (λ (i : ℕ). remove (collect (get c.loop-taken.rows) c.loop-taken.by_queue.items) i) (subst (λ (ks : List ℕ). c.part-low.result.0 ≡ length (before (λ (r : Row g.row.A.Denot). side by.Queue c.args.cut (spot r)) (collect (get c.args.rows.now) ks))) c.as_slice.ensures.value c.part-low.ensures.before)
      ∙ (ap (λ (ws : List (Row g.row.A.Denot)). remove ws (length (before (λ (r : Row g.row.A.Denot). side by.Queue c.args.cut (spot r)) (collect (get c.args.rows.now) c.args.by_queue.now.items)))) c.loop-taken.invariant.rows
      ∙ take_next c.loop-taken.taken (before (λ (r : Row g.row.A.Denot). side by.Queue c.args.cut (spot r)) (collect (get c.args.rows.now) c.args.by_queue.now.items)) (within (λ (r : Row g.row.A.Denot). side by.Queue c.args.cut (spot r)) (collect (get c.args.rows.now) c.args.by_queue.now.items)) (behind (λ (r : Row g.row.A.Denot). side by.Queue c.args.cut (spot r)) (collect (get c.args.rows.now) c.args.by_queue.now.items)) (omega (arith, c.loop-taken-test.true, subst (λ (ks : List ℕ). c.part-low.result.1 ≡ c.part-low.result.0 + length (within (λ (r : Row g.row.A.Denot). side by.Queue c.args.cut (spot r)) (collect (get c.args.rows.now) ks))) c.as_slice.ensures.value c.part-low.ensures.within))));
  len = omega (arith, c.loop-taken.invariant.len, c.take_row.ensures.len);
  len_by_queue = omega (arith, c.loop-taken.invariant.len_by_queue, c.take_row.ensures.len_by_queue);
  len_by_key = omega (arith, c.loop-taken.invariant.len_by_key, c.take_row.ensures.len_by_key);
  capacity = c.take_row.ensures.capacity ∙ c.loop-taken.invariant.capacity;
  capacity_by_queue = c.take_row.ensures.capacity_by_queue ∙ c.loop-taken.invariant.capacity_by_queue;
  capacity_by_key = c.take_row.ensures.capacity_by_key ∙ c.loop-taken.invariant.capacity_by_key;
}

pub returns-clause-rows : goal.returns-clause-rows
returns-clause-rows g c =
    all_taken (before (λ (r : Row g.row.A.Denot). side by.Queue c.args.cut (spot r)) (collect (get c.args.rows.now) c.args.by_queue.now.items)) (within (λ (r : Row g.row.A.Denot). side by.Queue c.args.cut (spot r)) (collect (get c.args.rows.now) c.args.by_queue.now.items)) (behind (λ (r : Row g.row.A.Denot). side by.Queue c.args.cut (spot r)) (collect (get c.args.rows.now) c.args.by_queue.now.items)) (collect (get c.loop-taken.rows) c.loop-taken.by_queue.items) c.loop-taken.taken c.loop-taken.invariant.rows (omega (arith, c.loop-taken-test.false, subst (λ (ks : List ℕ). c.part-low.result.1 ≡ c.part-low.result.0 + length (within (λ (r : Row g.row.A.Denot). side by.Queue c.args.cut (spot r)) (collect (get c.args.rows.now) ks))) c.as_slice.ensures.value c.part-low.ensures.within))
    ∙ sym (outside_is (on spot (order by.Queue)) (λ (r : Row g.row.A.Denot). side by.Queue c.args.cut (spot r)) (cut_rises by.Queue c.args.cut) (collect (get c.args.rows.now) c.args.by_queue.now.items) c.requires.kept.by_queue.sorted)
