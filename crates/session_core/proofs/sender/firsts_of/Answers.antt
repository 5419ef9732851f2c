-- The numbers that aren't completed are below 2^62.
use Rattle.std.proofs.Common.{◌^◌}
use Rattle.session_core.proofs.Sending.{rise_high}
use Rattle.session_core.proofs.sender.firsts_of.Goals as goal

pub add_between-requires-clause-rise : goal.add_between-requires-clause-rise
add_between-requires-clause-rise c = rise_high 0 c.args.sent (2 ^ 62) c.args.uncompleted.now.items c.requires.sent c.requires.rise
