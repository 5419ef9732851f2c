-- Those before have no bindings.
use Rattle.std.proofs.Common.{◌≡◌, length}
use Rattle.exchange_core.specs.Exchanges.{pairs_of}
use Rattle.exchange_core.proofs.iter.next_bound.Given as goal

abbrev pub invariant-loop-entry : goal.invariant-loop-entry
invariant-loop-entry l = pairs_of l.rest l.bindings.rows ≡ pairs_of l.entries l.bindings.rows

abbrev pub decreases-loop-entry : goal.decreases-loop-entry
decreases-loop-entry l = length l.rest
