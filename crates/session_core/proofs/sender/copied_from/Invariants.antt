-- So many are copied.
use Rattle.std.proofs.Common.{◌≡◌, ◌++◌, drop}
use Rattle.std.specs.VecDeque.Iter.{deque_iter_rest}
use Rattle.session_core.proofs.sender.copied_from.Given as goal

abbrev pub invariant-loop-unit : goal.invariant-loop-unit
invariant-loop-unit l = l.units ++ deque_iter_rest l.unit-iterator ≡ drop l.fn.index l.fn.kept.items
