-- Frames from the start on.
use Rattle.std.proofs.Common.{[], refl}
use Rattle.octet_tools.specs.Course.{Runs, limits}
use Rattle.octet_tools.specs.Taking.{IsAt}
use Rattle.octet_tools.proofs.Taking.{began_stops}
use Rattle.octet_tools.proofs.course.open_frames.Goals as goal

pub returns-in-Ok-take_frames : goal.returns-in-Ok-take_frames
returns-in-Ok-take_frames c = c.in-Ok-take_frames.ensures (Runs 0 []) (record { stands = c.in-Ok.ensures limits (λ p le. refl); sound = tt })

pub returns-in-Err-take_frames : goal.returns-in-Err-take_frames
returns-in-Err-take_frames c =
    began_stops c.args.tool (IsAt c.take_frames.new.assembler) c.args.octets.now c.args.text.now.items c.take_frames.new.text.items c.in-Err-take_frames.stop
    (c.in-Err-take_frames.ensures (Runs 0 []) (record { stands = c.in-Ok.ensures limits (λ p le. refl); sound = tt }))
