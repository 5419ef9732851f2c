-- What was taken so far, and what is left.
use Rattle.std.proofs.Common.{◌≤◌, length}
use Rattle.octet_tools.specs.Course.{Course}
use Rattle.octet_tools.specs.Taking.{IsAt}
use Rattle.octet_tools.proofs.Coursing.{Going}
use Rattle.octet_tools.proofs.course.take_frames.Given as goal

abbrev pub invariant-loop-rest : goal.invariant-loop-rest
invariant-loop-rest l =
    ((d : Course) → IsAt l.initial.assembler d → Going l.tool l.assembler d l.piece l.rest l.initial.text.items l.text.items) × (length l.rest ≤ length l.piece)

abbrev pub decreases-loop-rest : goal.decreases-loop-rest
decreases-loop-rest l = length l.rest
