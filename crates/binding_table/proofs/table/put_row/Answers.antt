-- The key goes in at one index of each order.
use Rattle.std.proofs.Common.{◌≡◌, ◌∙◌, ℕ, List, length, sym, ap, subst}
use Rattle.std.specs.Ordering.{on, is_lt}
use Rattle.std.specs.List.{insert}
use Rattle.slab.specs.Slab.{get}
use Rattle.binding_table.specs.declared.row.Row.{Row}
use Rattle.binding_table.specs.declared.order.By.TheVariants as by
use Rattle.binding_table.specs.Spots.{spot, order}
use Rattle.sorted_map.specs.Cuts.{collect, before}
use Rattle.binding_table.specs.Rows.{Kept}
use Rattle.sorted_map.proofs.Changing.{point_fits}
use Rattle.binding_table.proofs.Keeping.{more_kept}
use Rattle.binding_table.proofs.table.put_row.Goals as goal

pub put_at-requires-clause-index : goal.put_at-requires-clause-index
put_at-requires-clause-index g c = point_fits (on spot (order by.Queue)) (get c.args.rows.now) c.args.by_queue.now.items c.requires.kept.by_queue (λ (r : Row g.row.A.Denot). is_lt (order by.Queue (spot r) (spot c.args.row))) c.part-index.result.0 (subst (λ (ks : List ℕ). c.part-index.result.0 ≡ length (before (λ (r : Row g.row.A.Denot). order by.Queue (spot r) (spot c.args.row)) (collect (get c.args.rows.now) ks))) c.as_slice.ensures.value c.part-index.ensures.before)

pub put_at-requires-2-clause-index : goal.put_at-requires-2-clause-index
put_at-requires-2-clause-index g c = point_fits (on spot (order by.Key)) (get c.args.rows.now) c.args.by_key.now.items c.requires.kept.by_key (λ (r : Row g.row.A.Denot). is_lt (order by.Key (spot r) (spot c.args.row))) c.part-other.result.0 (subst (λ (ks : List ℕ). c.part-other.result.0 ≡ length (before (λ (r : Row g.row.A.Denot). order by.Key (spot r) (spot c.args.row)) (collect (get c.args.rows.now) ks))) c.as_slice-2.ensures.value c.part-other.ensures.before)

pub returns-clause-kept : goal.returns-clause-kept
returns-clause-kept g c =
    subst (λ (ks : List ℕ). Kept (get c.insert_reserved-key.new.self) ks c.put_at-2.new.keys.items) (sym c.put_at.ensures.items)
    (subst (λ (ls : List ℕ). Kept (get c.insert_reserved-key.new.self) (insert c.args.by_queue.now.items c.part-index.result.0 c.insert_reserved-key.result) ls) (sym c.put_at-2.ensures.items)
    (more_kept (get c.args.rows.now) c.args.by_queue.now.items c.args.by_key.now.items c.requires.kept (get c.insert_reserved-key.new.self) c.insert_reserved-key.result c.args.row c.insert_reserved-key.ensures.was_vacant c.insert_reserved-key.ensures.updates.changed c.insert_reserved-key.ensures.updates.others c.requires.new c.part-index.result.0 c.part-other.result.0
    (subst (λ (ks : List ℕ). c.part-index.result.0 ≡ length (before (λ (r : Row g.row.A.Denot). order by.Queue (spot r) (spot c.args.row)) (collect (get c.args.rows.now) ks))) c.as_slice.ensures.value c.part-index.ensures.before)
    (subst (λ (ks : List ℕ). c.part-other.result.0 ≡ length (before (λ (r : Row g.row.A.Denot). order by.Key (spot r) (spot c.args.row)) (collect (get c.args.rows.now) ks))) c.as_slice-2.ensures.value c.part-other.ensures.before)
    (point_fits (on spot (order by.Queue)) (get c.args.rows.now) c.args.by_queue.now.items c.requires.kept.by_queue (λ (r : Row g.row.A.Denot). is_lt (order by.Queue (spot r) (spot c.args.row))) c.part-index.result.0 (subst (λ (ks : List ℕ). c.part-index.result.0 ≡ length (before (λ (r : Row g.row.A.Denot). order by.Queue (spot r) (spot c.args.row)) (collect (get c.args.rows.now) ks))) c.as_slice.ensures.value c.part-index.ensures.before))
    (point_fits (on spot (order by.Key)) (get c.args.rows.now) c.args.by_key.now.items c.requires.kept.by_key (λ (r : Row g.row.A.Denot). is_lt (order by.Key (spot r) (spot c.args.row))) c.part-other.result.0 (subst (λ (ks : List ℕ). c.part-other.result.0 ≡ length (before (λ (r : Row g.row.A.Denot). order by.Key (spot r) (spot c.args.row)) (collect (get c.args.rows.now) ks))) c.as_slice-2.ensures.value c.part-other.ensures.before))).kept)

pub returns-clause-rows : goal.returns-clause-rows
returns-clause-rows g c =
    ap (collect (get c.insert_reserved-key.new.self)) c.put_at.ensures.items
    ∙ (more_kept (get c.args.rows.now) c.args.by_queue.now.items c.args.by_key.now.items c.requires.kept (get c.insert_reserved-key.new.self) c.insert_reserved-key.result c.args.row c.insert_reserved-key.ensures.was_vacant c.insert_reserved-key.ensures.updates.changed c.insert_reserved-key.ensures.updates.others c.requires.new c.part-index.result.0 c.part-other.result.0
    (subst (λ (ks : List ℕ). c.part-index.result.0 ≡ length (before (λ (r : Row g.row.A.Denot). order by.Queue (spot r) (spot c.args.row)) (collect (get c.args.rows.now) ks))) c.as_slice.ensures.value c.part-index.ensures.before)
    (subst (λ (ks : List ℕ). c.part-other.result.0 ≡ length (before (λ (r : Row g.row.A.Denot). order by.Key (spot r) (spot c.args.row)) (collect (get c.args.rows.now) ks))) c.as_slice-2.ensures.value c.part-other.ensures.before)
    (point_fits (on spot (order by.Queue)) (get c.args.rows.now) c.args.by_queue.now.items c.requires.kept.by_queue (λ (r : Row g.row.A.Denot). is_lt (order by.Queue (spot r) (spot c.args.row))) c.part-index.result.0 (subst (λ (ks : List ℕ). c.part-index.result.0 ≡ length (before (λ (r : Row g.row.A.Denot). order by.Queue (spot r) (spot c.args.row)) (collect (get c.args.rows.now) ks))) c.as_slice.ensures.value c.part-index.ensures.before))
    (point_fits (on spot (order by.Key)) (get c.args.rows.now) c.args.by_key.now.items c.requires.kept.by_key (λ (r : Row g.row.A.Denot). is_lt (order by.Key (spot r) (spot c.args.row))) c.part-other.result.0 (subst (λ (ks : List ℕ). c.part-other.result.0 ≡ length (before (λ (r : Row g.row.A.Denot). order by.Key (spot r) (spot c.args.row)) (collect (get c.args.rows.now) ks))) c.as_slice-2.ensures.value c.part-other.ensures.before))).rows
