-- A new session is attached.
use Rattle.hub_core.proofs.state.State.hear_attach.Goals as goal

pub returns-then-may_attach-clause-attached : goal.returns-then-may_attach-clause-attached
returns-then-may_attach-clause-attached c = λ w queues s may. c.attach.ensures.attached w queues s
