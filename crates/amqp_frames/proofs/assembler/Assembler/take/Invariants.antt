-- What was taken so far, and what is left.
use Rattle.std.proofs.Common.{◌≡◌, ◌≤◌, ℕ, None, length}
use Rattle.amqp_frames.specs.Cut.{Cutting}
use Rattle.amqp_frames.specs.Stands.{StandsAs, KeepsLog}
use Rattle.amqp_frames.proofs.Taking.{Going}
use Rattle.amqp_frames.proofs.assembler.Assembler.take.Given as goal

abbrev pub invariant-loop-rest : goal.invariant-loop-rest
invariant-loop-rest l =
    ((limits : ℕ → ℕ) (first : ℕ) (cutting : Cutting) → StandsAs l.initial.self limits first cutting → l.initial.self.fault ≡ None → Going l.self limits first cutting l.piece l.rest)
    × KeepsLog l.initial.self l.self × (length l.rest ≤ length l.piece)

abbrev pub decreases-loop-rest : goal.decreases-loop-rest
decreases-loop-rest l = length l.rest
