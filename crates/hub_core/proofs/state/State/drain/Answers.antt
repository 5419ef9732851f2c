-- Without notices nothing goes out.
use Rattle.hub_core.proofs.state.State.drain.Goals as goal

pub returns-in-Ok-clause-drains : goal.returns-in-Ok-clause-drains
returns-in-Ok-clause-drains c = λ w queues s.
    (c.in-Ok.ensures (c.take_notices-taken.ensures.none w queues s), c.tidy_notices.ensures w queues (c.take_notices-taken.ensures.same w queues s))

pub returns-in-Err-clause-unchanged : goal.returns-in-Err-clause-unchanged
returns-in-Err-clause-unchanged c = λ w queues s. c.return_notices.ensures w queues (c.take_notices-taken.ensures.same w queues s)
