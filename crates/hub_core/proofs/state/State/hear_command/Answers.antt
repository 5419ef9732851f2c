-- A command that can't act for want of memory changes nothing.
use Rattle.hub_core.proofs.state.State.hear_command.Goals as goal

pub returns-in-Err-clause-unchanged : goal.returns-in-Err-clause-unchanged
returns-in-Err-clause-unchanged c = λ w queues s may. c.in-Err.ensures.unchanged w queues s
