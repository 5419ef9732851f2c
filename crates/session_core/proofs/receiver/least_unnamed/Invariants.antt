-- Up to here all are named.
use Rattle.std.proofs.Common.{◌≡◌, ◌+◌, ◌-◌, ◌^◌, ◌<◌, ◌≤◌, ◌||◌, true, ℕ}
use Rattle.serial_ranges.specs.Runs.{names}
use Rattle.history_model.specs.Life.{named}
use Rattle.session_core.proofs.receiver.least_unnamed.Given as goal

abbrev pub invariant-loop-at : goal.invariant-loop-at
invariant-loop-at l =
    (l.fn.reference ≤ l.at)
    × (l.at ≤ 2 ^ 62 + 2 ^ 33)
    × ((n : ℕ) → l.fn.reference ≤ n → n < l.at → (names (named l.fn.reference l.fn.ranges) n || names l.fn.ahead n) ≡ true)

abbrev pub decreases-loop-at : goal.decreases-loop-at
decreases-loop-at l = 2 ^ 62 + 2 ^ 33 - l.at
