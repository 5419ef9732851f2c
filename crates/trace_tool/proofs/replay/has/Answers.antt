-- Both tables have it, or neither.
use Rattle.std.proofs.Common.{◌∙◌}
use Rattle.trace_tool.proofs.Linking.{has_alike}
use Rattle.trace_tool.proofs.replay.has.Goals as goal

pub returns : goal.returns
returns c = λ links p. c.contains_key.ensures ∙ has_alike c.args.connection c.args.connections.now.entries links p
