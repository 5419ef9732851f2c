-- Up to here all are named, by ranges that came or come; where that is nothing, those that came don't name the start.
use Rattle.std.proofs.Common.{◌≡◌, ◌<◌, ◌≤◌, true, ℕ, length}
use Rattle.serial_ranges.specs.Runs.{names}
use Rattle.history_model.specs.Life.{named}
use Rattle.session_core.proofs.receiver.past.Given as goal

abbrev pub invariant-loop-range : goal.invariant-loop-range
invariant-loop-range l =
    (l.fn.from ≤ l.at)
    × ((n : ℕ) → l.fn.from ≤ n → n < l.at → names (named l.fn.reference l.fn.ranges) n ≡ true)
    × ((n : ℕ) → names (named l.fn.reference l.rest) n ≡ true → names (named l.fn.reference l.fn.ranges) n ≡ true)
    × (l.at ≡ l.fn.from → names (named l.fn.reference l.fn.ranges) l.fn.from ≡ names (named l.fn.reference l.rest) l.fn.from)

abbrev pub decreases-loop-range : goal.decreases-loop-range
decreases-loop-range l = length l.rest
