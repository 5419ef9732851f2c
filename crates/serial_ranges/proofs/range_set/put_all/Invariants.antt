-- So many ranges are put, and there is room for the rest.
use Rattle.std.proofs.Common.{◌≡◌, ◌+◌, ◌≤◌, ◌||◌, ℕ, length}
use Rattle.std.specs.Vec.{vec_len, vec_capacity}
use Rattle.serial_ranges.specs.Runs.{names, AreRuns, AreRanges}
use Rattle.serial_ranges.proofs.range_set.put_all.Given as goal

abbrev pub invariant-loop-range : goal.invariant-loop-range
invariant-loop-range l =
    AreRuns l.runs.items
    × AreRanges l.rest
    × (vec_len l.runs + length l.rest ≤ vec_capacity l.runs)
    × ((n : ℕ) → (names l.rest n || names l.runs.items n) ≡ (names l.fn.ranges n || names l.fn.runs.items n))

abbrev pub decreases-loop-range : goal.decreases-loop-range
decreases-loop-range l = length l.rest
