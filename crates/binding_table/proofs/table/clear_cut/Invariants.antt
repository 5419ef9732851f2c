-- What is before the cut and behind it is there, and what is left of the cut.
use Rattle.std.proofs.Common.{◌≡◌, ◌≤◌, ◌++◌, drop}
use Rattle.std.specs.Vec.{vec_len, vec_capacity}
use Rattle.slab.specs.Slab.{get, slab_len}
use Rattle.binding_table.specs.declared.order.By.TheVariants as by
use Rattle.binding_table.specs.declared.row.Row.{Row}
use Rattle.binding_table.specs.Spots.{spot, side}
use Rattle.sorted_map.specs.Cuts.{collect, before, within, behind}
use Rattle.binding_table.specs.Rows.{Kept}
use Rattle.binding_table.proofs.table.clear_cut.Given as goal

abbrev pub invariant-loop-taken : goal.invariant-loop-taken
invariant-loop-taken g l = record {
  kept : Kept (get l.rows) l.by_queue.items l.by_key.items;
  rows : collect (get l.rows) l.by_queue.items
      ≡ before (λ (r : Row g.row.A.Denot). side by.Queue l.cut (spot r)) (collect (get l.initial.rows) l.initial.by_queue.items)
      ++ (drop l.taken (within (λ (r : Row g.row.A.Denot). side by.Queue l.cut (spot r)) (collect (get l.initial.rows) l.initial.by_queue.items))
      ++ behind (λ (r : Row g.row.A.Denot). side by.Queue l.cut (spot r)) (collect (get l.initial.rows) l.initial.by_queue.items));
  len : slab_len l.rows ≤ slab_len l.initial.rows;
  len_by_queue : vec_len l.by_queue ≤ vec_len l.initial.by_queue;
  len_by_key : vec_len l.by_key ≤ vec_len l.initial.by_key;
  capacity : l.rows.capacity ≡ l.initial.rows.capacity;
  capacity_by_queue : vec_capacity l.by_queue ≡ vec_capacity l.initial.by_queue;
  capacity_by_key : vec_capacity l.by_key ≡ vec_capacity l.initial.by_key;
}
