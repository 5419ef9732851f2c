-- The state stands for one arrival more.
use Rattle.std.proofs.Common.{◌≡◌, IfOk, sym, subst}
use Rattle.history_model.specs.Answers.{outs}
use Rattle.history_model.specs.Standing.{world, after_event}
use Rattle.history_model.specs.State.{state}
use Rattle.history_model.proofs.States.{state_event}
use Rattle.hub_core.specs.Stands.{StandsAs}
use Rattle.hub_core.proofs.hub.Hub.step.Goals as goal

pub returns-clause-steps : goal.returns-clause-steps
returns-clause-steps g c = λ h s covered.
    subst (λ q. IfOk c.step-outs.result (λ o. (o ≡ outs (world h) c.args.event) × StandsAs c.step-outs.new.self (after_event (world h) c.args.event) q))
    (sym (state_event h c.args.event)) (c.step-outs.ensures.steps (world h) (state h).queues s covered)
