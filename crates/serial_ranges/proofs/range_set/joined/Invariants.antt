-- The runs so far are covered.
use Rattle.std.proofs.Common.{◌≡◌, take, fold}
use Rattle.serial_ranges.specs.Runs.{join}
use Rattle.serial_ranges.proofs.range_set.joined.Given as goal

abbrev pub invariant-loop-other : goal.invariant-loop-other
invariant-loop-other l = l.run ≡ fold join l.initial.run (take l.other-index l.others)
