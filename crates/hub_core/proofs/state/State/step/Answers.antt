-- A connection joined, or was lost, and nothing goes out.
use Rattle.std.proofs.Common.{◌≡◌, None, sym, subst, ap, ◌∙◌}
use Rattle.amqp_terms.specs.declared.event.Outs.{Outs}
use Rattle.amqp_terms.specs.declared.event.HubEvent.TheVariants as event
use Rattle.history_model.specs.Answers.{outs, joined_as}
use Rattle.history_model.specs.Standing.{after_event}
use Rattle.history_model.specs.State.{queues_after}
use Rattle.hub_core.specs.Stands.{StandsAs}
use Rattle.hub_core.proofs.state.State.step.Goals as goal

pub returns-in-Join-clause-steps : goal.returns-in-Join-clause-steps
returns-in-Join-clause-steps c = λ w queues s covered.
    let both = c.join-joined.ensures w queues s in
    let gives : ◌≡◌ {A = Outs} (record { joined = c.join-joined.result; units = c.new.result; asked = None }) (outs w event.Join) =
    ap (λ j. record { joined = j; units = c.new.result; asked = None }) both.0 ∙ ap (λ u. record { joined = joined_as w event.Join; units = u; asked = None }) c.new.ensures in (
      subst (λ e. ◌≡◌ {A = Outs} (record { joined = c.join-joined.result; units = c.new.result; asked = None }) (outs w e)) (sym c.in-Join.is) gives,
      subst (λ e. StandsAs c.join-joined.new.self (after_event w e) (queues_after w queues e)) (sym c.in-Join.is) both.1,
    )

pub returns-in-Lost-clause-steps : goal.returns-in-Lost-clause-steps
returns-in-Lost-clause-steps c = λ w queues s covered.
    let none : c.sent-in-Lost.result ≡ outs w (event.Lost c.in-Lost.conn) =
    c.sent-in-Lost.ensures ∙ ap (λ u. record { joined = None; units = u; asked = None }) c.new-in-Lost.ensures in (
      subst (λ e. ◌≡◌ {A = Outs} c.sent-in-Lost.result (outs w e)) (sym c.in-Lost.is) none,
      subst (λ e. StandsAs c.lose.new.self (after_event w e) (queues_after w queues e)) (sym c.in-Lost.is) (c.lose.ensures w queues s),
    )

pub returns-in_ok-units-in-Drain-clause-steps : goal.returns-in_ok-units-in-Drain-clause-steps
returns-in_ok-units-in-Drain-clause-steps c = λ w queues s covered.
    let did = c.in_ok-units-in-Drain.ensures.drains w queues s in
    let none : c.sent-in-Drain.result ≡ outs w (event.Drain c.in-Drain.conn) =
    c.sent-in-Drain.ensures ∙ ap (λ u. record { joined = None; units = u; asked = None }) did.0 in (
      subst (λ e. ◌≡◌ {A = Outs} c.sent-in-Drain.result (outs w e)) (sym c.in-Drain.is) none,
      subst (λ e. StandsAs c.drain.new.self (after_event w e) (queues_after w queues e)) (sym c.in-Drain.is) did.1,
    )
