-- So many ranges gave theirs.
use Rattle.std.proofs.Common.{◌≡◌, ◌&&◌, ◌||◌, ℕ, drop}
use Rattle.serial_ranges.specs.Runs.{names}
use Rattle.history_model.specs.Life.{named}
use Rattle.session_core.specs.Sent.{has}
use Rattle.session_core.proofs.sender.firsts_of.Given as goal

abbrev pub invariant-loop-range : goal.invariant-loop-range
invariant-loop-range l = (n : ℕ) →
    ((names (named l.fn.sent (drop l.range-index l.ranges)) n && has l.fn.uncompleted.items n) || names l.firsts n) ≡ (names (named l.fn.sent l.fn.ranges) n && has l.fn.uncompleted.items n)
