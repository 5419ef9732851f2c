-- The names so far, and those of the rest.
use Rattle.std.proofs.Common.{◌≡◌, ◌++◌, length}
use Rattle.branch_core.specs.State.{branches_of}
use Rattle.branch_core.specs.Acts.{prepared_xids}
use Rattle.branch_core.proofs.table.prepared.Given as goal

abbrev pub invariant-loop-entry : goal.invariant-loop-entry
invariant-loop-entry l = l.xids.items ++ prepared_xids (branches_of l.rest) ≡ prepared_xids (branches_of l.entries)

abbrev pub decreases-loop-entry : goal.decreases-loop-entry
decreases-loop-entry l = length l.rest
