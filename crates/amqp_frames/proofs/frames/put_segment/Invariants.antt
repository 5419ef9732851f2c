-- The frames so far, and those to come.
use Rattle.std.proofs.Common.{◌≡◌, ◌≤◌, ◌+◌, ◌-◌, ◌++◌, suc, length}
use Rattle.amqp_frames.specs.Frames.{frames_from, laid_segment}
use Rattle.amqp_frames.proofs.frames.put_segment.Given as goal

abbrev pub invariant-loop : goal.invariant-loop
invariant-loop l =
    (l.out.items ++ frames_from (suc (length l.octets - l.counter)) l.most l.ends l.kind l.channel l.first l.rest ≡ l.initial.out.items ++ laid_segment l.most l.ends l.kind l.channel l.octets)
    × (length l.rest + l.counter ≤ length l.octets) × (l.first ≤ 2)
