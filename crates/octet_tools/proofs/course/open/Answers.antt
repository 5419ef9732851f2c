-- Eight octets that are no protocol header.
use Rattle.std.proofs.Common.{sym}
use Rattle.octet_tools.proofs.Taking.{opened_frames}
use Rattle.octet_tools.proofs.course.open.Goals as goal

pub returns-then-not-is_header : goal.returns-then-not-is_header
returns-then-not-is_header c = λ long.
    opened_frames c.args.tool c.args.eight.now c.args.text.now.items c.open_frames.new.text.items c.open_frames.result long (sym c.if-not-is_header.ensures) c.open_frames.ensures
