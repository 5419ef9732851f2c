-- The answers, and the new life.
use Rattle.hub_core.proofs.state.State.attach.Goals as goal

pub returns-in-Ok-clause-attached : goal.returns-in-Ok-clause-attached
returns-in-Ok-clause-attached c = λ w queues s. (c.in_ok-units.ensures, c.in-Ok.ensures.seated w queues s)
