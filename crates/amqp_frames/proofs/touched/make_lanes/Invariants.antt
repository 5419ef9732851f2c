-- The lanes that are added are empty.
use Rattle.std.proofs.Common.{◌≡◌, ◌≤◌, ◌-◌, ℕ, vec_len}
use Rattle.amqp_frames.specs.Touched.{lane_in}
use Rattle.amqp_frames.proofs.touched.make_lanes.Given as goal

abbrev pub invariant-loop-alloc : goal.invariant-loop-alloc
invariant-loop-alloc l = ((i : ℕ) → lane_in l.lanes.items i ≡ lane_in l.initial.lanes.items i) × (vec_len l.initial.lanes ≤ vec_len l.lanes)

abbrev pub decreases-loop-alloc : goal.decreases-loop-alloc
decreases-loop-alloc l = l.count - vec_len l.lanes
