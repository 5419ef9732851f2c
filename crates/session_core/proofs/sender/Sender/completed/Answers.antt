-- The numbers that aren't completed are below 2^62.
use Rattle.std.proofs.Common.{◌+◌, ◌^◌, length}
use Rattle.session_core.proofs.Sending.{rise_high}
use Rattle.session_core.proofs.sender.Sender.completed.Goals as goal

pub complete-requires : goal.complete-requires
complete-requires c = rise_high 0 (c.self.inside.base + length c.self.inside.kept.items) (2 ^ 62) c.self.inside.uncompleted.items c.self.invariant.0 c.self.invariant.1
