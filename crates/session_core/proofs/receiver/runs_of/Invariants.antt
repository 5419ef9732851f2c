-- So many ranges gave their runs.
use Rattle.std.proofs.Common.{◌≡◌, ◌++◌, drop}
use Rattle.history_model.specs.Life.{named}
use Rattle.session_core.specs.Received.{from_on}
use Rattle.session_core.proofs.receiver.runs_of.Given as goal

abbrev pub invariant-loop-range : goal.invariant-loop-range
invariant-loop-range l = l.runs.items ++ from_on l.reference (named l.reference (drop l.range-index l.ranges)) ≡ from_on l.fn.reference (named l.fn.reference l.fn.ranges)
