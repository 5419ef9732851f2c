-- How many numbers there are in runs.
use Rattle.std.proofs.Common.{ℕ, ◌+◌, ◌-◌, ◌^◌, ◌≤◌, List, [], ◌∷◌, arith}
use Rattle.serial_ranges.specs.Runs.{Rise}
use Rattle.broker_core.specs.Commands.{count_of}

pub count_bound : (low : ℕ) (runs : List (ℕ × ℕ)) → Rise low runs → count_of runs ≤ 2 ^ 63 - low
count_bound low [] h = omega arith
count_bound low (run ∷ runs) h = omega (arith, h.0, h.1, h.2, count_bound (run.1 + 2) runs h.3)
