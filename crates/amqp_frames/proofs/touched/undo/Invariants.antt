-- What is taken back, and what is still to be.
use Rattle.std.proofs.Common.{◌≡◌, ℕ}
use Rattle.amqp_frames.specs.Touched.{lane_in, undone, InReach}
use Rattle.amqp_frames.proofs.touched.undo.Given as goal

abbrev pub invariant-loop-touch : goal.invariant-loop-touch
invariant-loop-touch l =
    InReach l.log.items l.lanes.items
    × ((i : ℕ) → undone l.log.items (lane_in l.lanes.items) i ≡ undone l.initial.log.items (lane_in l.initial.lanes.items) i)

abbrev pub decreases-loop-touch : goal.decreases-loop-touch
decreases-loop-touch l = goal.left-loop-touch l
