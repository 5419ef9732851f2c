-- Those left decide where all do.
use Rattle.std.proofs.Common.{◌≡◌, length}
use Rattle.std.specs.List.{list_any}
use Rattle.branch_core.specs.State.{branches_of}
use Rattle.branch_core.specs.Acts.{names_at}
use Rattle.branch_core.proofs.table.names.Given as goal

abbrev pub invariant-loop-entry : goal.invariant-loop-entry
invariant-loop-entry l = list_any (names_at l.queue) (branches_of l.rest) ≡ list_any (names_at l.queue) (branches_of l.entries)

abbrev pub decreases-loop-entry : goal.decreases-loop-entry
decreases-loop-entry l = length l.rest
