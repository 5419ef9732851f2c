-- No line came, and no connection is there.
use Rattle.std.proofs.Common.{[], sym, subst}
use Rattle.history_model.specs.Pairs.{Paired, none}
use Rattle.trace_tool.specs.Replay.{IsLink}
use Rattle.trace_tool.proofs.replay.Replay.open.Goals as goal

pub returns-in-Ok : goal.returns-in-Ok
returns-in-Ok g c = (record { serves = c.in-Ok.ensures.0; links_are = subst (λ es. Paired IsLink es []) (sym c.new.ensures.empty) none }, c.in-Ok.ensures.1)
