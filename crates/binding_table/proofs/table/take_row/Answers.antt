-- The key has one index in each order.
use Rattle.std.proofs.Common.{rules, arith, ◌≡◌, ◌∙◌, ℕ, None, List, length, sym, ap, subst}
use Rattle.std.specs.Ordering.{on}
use Rattle.std.specs.List.{remove}
use Rattle.slab.specs.Slab.{get}
use Rattle.binding_table.specs.declared.row.Row.{Row}
use Rattle.binding_table.specs.declared.order.By.TheVariants as by
use Rattle.binding_table.specs.Spots.{spot, order}
use Rattle.sorted_map.specs.Cuts.{collect, before}
use Rattle.binding_table.specs.Rows.{Kept}
use Rattle.sorted_map.proofs.Changing.{found_is, not_none}
use Rattle.binding_table.proofs.Keeping.{other_index, less_kept}
use Rattle.binding_table.proofs.table.take_row.Goals as goal

pub unreachable-requires : goal.unreachable-requires
unreachable-requires g c =
    let gone : get c.args.rows.now c.remove-key.result ≡ None = search rules in
    not_none (on spot (order by.Queue)) (get c.args.rows.now) c.args.by_queue.now.items c.requires.kept.by_queue c.args.index c.remove-key.result c.requires.index c.remove-key.ensures.value gone

pub remove-requires : goal.remove-requires
remove-requires g c =
    omega (
      arith,
      (other_index (get c.args.rows.now) c.args.by_queue.now.items c.args.by_key.now.items c.requires.kept c.args.index c.remove-key.result c.requires.index c.remove-key.ensures.value c.in-Some.row.now (search rules) c.part.result.0
          (subst (λ (ls : List ℕ). c.part.result.0 ≡ length (before (λ (r : Row g.row.A.Denot). order by.Key (spot r) (spot c.in-Some.row.now)) (collect (get c.args.rows.now) ls))) c.as_slice.ensures.value c.part.ensures.before)).0,
      c.as_slice.ensures.len,
      ap length c.as_slice.ensures.value,
    )

pub returns-clause-kept : goal.returns-clause-kept
returns-clause-kept g c =
    subst (λ (ks : List ℕ). Kept (get c.remove-2.new.self) ks c.remove.new.self.items) (sym c.remove-key.ensures.items)
    (subst (λ (ls : List ℕ). Kept (get c.remove-2.new.self) (remove c.args.by_queue.now.items c.args.index) ls) (sym c.remove.ensures.items)
    (less_kept (get c.args.rows.now) c.args.by_queue.now.items c.args.by_key.now.items c.requires.kept (get c.remove-2.new.self) c.args.index c.remove-key.result c.part.result.0 c.requires.index c.remove-key.ensures.value
    (other_index (get c.args.rows.now) c.args.by_queue.now.items c.args.by_key.now.items c.requires.kept c.args.index c.remove-key.result c.requires.index c.remove-key.ensures.value c.in-Some.row.now (search rules) c.part.result.0
    (subst (λ (ls : List ℕ). c.part.result.0 ≡ length (before (λ (r : Row g.row.A.Denot). order by.Key (spot r) (spot c.in-Some.row.now)) (collect (get c.args.rows.now) ls))) c.as_slice.ensures.value c.part.ensures.before)) c.remove-2.ensures.updates.others).kept)

pub returns-clause-rows : goal.returns-clause-rows
returns-clause-rows g c =
    ap (collect (get c.remove-2.new.self)) c.remove-key.ensures.items
    ∙ (less_kept (get c.args.rows.now) c.args.by_queue.now.items c.args.by_key.now.items c.requires.kept (get c.remove-2.new.self) c.args.index c.remove-key.result c.part.result.0 c.requires.index c.remove-key.ensures.value
    (other_index (get c.args.rows.now) c.args.by_queue.now.items c.args.by_key.now.items c.requires.kept c.args.index c.remove-key.result c.requires.index c.remove-key.ensures.value c.in-Some.row.now (search rules) c.part.result.0
    (subst (λ (ls : List ℕ). c.part.result.0 ≡ length (before (λ (r : Row g.row.A.Denot). order by.Key (spot r) (spot c.in-Some.row.now)) (collect (get c.args.rows.now) ls))) c.as_slice.ensures.value c.part.ensures.before)) c.remove-2.ensures.updates.others).rows

pub returns-clause-row : goal.returns-clause-row
returns-clause-row g c = found_is (on spot (order by.Queue)) (get c.args.rows.now) c.args.by_queue.now.items c.requires.kept.by_queue c.args.index c.remove-key.result c.requires.index c.remove-key.ensures.value c.remove-2.result c.remove-2.ensures.value
