-- Those below the index are changed.
use Rattle.std.proofs.Common.{◌≡◌, length}
use Rattle.sorted_map.proofs.Showing.{changed_below}
use Rattle.branch_core.specs.Held.{changed_by}
use Rattle.branch_core.specs.State.{branches_of}
use Rattle.branch_core.proofs.table.change_all.Given as goal

abbrev pub invariant-loop-index : goal.invariant-loop-index
invariant-loop-index l = (l.index-end ≡ length l.fn.branches.entries) × (branches_of l.branches.entries ≡ changed_below l.index (changed_by l.change) (branches_of l.fn.branches.entries))
