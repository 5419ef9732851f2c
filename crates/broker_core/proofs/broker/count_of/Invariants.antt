-- What was counted and what is left is all.
use Rattle.std.proofs.Common.{◌≡◌, ℕ, ◌+◌, ◌≤◌, ◌^◌}
use Rattle.serial_ranges.specs.Runs.{Rise}
use Rattle.broker_core.specs.Commands.{count_of}
use Rattle.broker_core.proofs.broker.count_of.Given as goal

abbrev pub invariant-loop-lower : goal.invariant-loop-lower
invariant-loop-lower l = ((low : ℕ) × Rise low l.lower-iterator) × (l.count + count_of l.lower-iterator ≡ count_of l.numbers) × (count_of l.numbers ≤ 2 ^ 63)
