-- Without notices the answers go out alone.
use Rattle.hub_core.proofs.state.State.turn.Goals as goal

pub returns-in-Ok-clause-heard : goal.returns-in-Ok-clause-heard
returns-in-Ok-clause-heard c = λ w queues s covered.
    let heard = c.in-Ok.ensures.heard w queues (c.take_notices-taken.ensures.same w queues s) covered (c.take_notices-taken.ensures.none w queues s) in
    (heard.0, c.tidy_notices.ensures _ _ heard.1)

pub returns-in-Err-clause-unchanged : goal.returns-in-Err-clause-unchanged
returns-in-Err-clause-unchanged c = λ w queues s covered.
    c.return_notices.ensures w queues (c.in-Err.ensures.unchanged w queues (c.take_notices-taken.ensures.same w queues s) covered)
