-- So many runs are taken out.
use Rattle.std.proofs.Common.{◌≡◌, ◌≤◌, ◌&&◌, not, ℕ}
use Rattle.std.specs.VecDeque.{deque_len, deque_capacity}
use Rattle.serial_ranges.specs.Runs.{names, AreRanges}
use Rattle.session_core.specs.Sent.{has, Rise}
use Rattle.session_core.proofs.sender.complete.Given as goal

abbrev pub invariant-loop-run : goal.invariant-loop-run
invariant-loop-run l =
    AreRanges l.run-iterator
    × ((limit : ℕ) → Rise 0 limit l.fn.uncompleted.items → Rise 0 limit l.uncompleted.items)
    × (deque_len l.uncompleted ≤ deque_len l.fn.uncompleted)
    × (deque_capacity l.uncompleted ≡ deque_capacity l.fn.uncompleted)
    × ((n : ℕ) → (not (names l.run-iterator n) && has l.uncompleted.items n) ≡ (not (names l.fn.firsts n) && has l.fn.uncompleted.items n))
