-- So many numbers are in the set.
use Rattle.std.proofs.Common.{◌≡◌, ◌||◌, ◌^◌, ℕ}
use Rattle.std.specs.List.{slice_range}
use Rattle.std.specs.VecDeque.Iter.{deque_iter_rest}
use Rattle.serial_ranges.specs.Runs.{names}
use Rattle.session_core.specs.Sent.{has, Below}
use Rattle.session_core.proofs.sender.add_between.Given as goal

abbrev pub invariant-loop-number : goal.invariant-loop-number
invariant-loop-number l =
    Below (2 ^ 62) (deque_iter_rest l.number-iterator)
    × ((n : ℕ) → (has (deque_iter_rest l.number-iterator) n || names l.set n) ≡ (has (slice_range l.fn.numbers.items l.start l.end) n || names l.fn.set n))
