-- The runs so far tell what they tell, and the rest lies behind them.
use Rattle.std.proofs.Common.{◌+◌, length}
use Rattle.serial_ranges.proofs.Splitting.{Meeting}
use Rattle.serial_ranges.proofs.range_set.meet.Given as goal

abbrev pub invariant-loop-x : goal.invariant-loop-x
invariant-loop-x l = Meeting l.one l.other l.out.items l.xs l.ys

abbrev pub decreases-loop-x : goal.decreases-loop-x
decreases-loop-x l = length l.xs + length l.ys
