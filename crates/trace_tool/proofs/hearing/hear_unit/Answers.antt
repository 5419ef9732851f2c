-- Where the definitions cover the event, the hub's step is the event's, and its units are written.
use Rattle.std.proofs.Common.{◌≡◌, ℕ, ◌∷◌, ◌++◌, List, Bool, true, false, if◌then◌else◌, None, Result, Ok, Err, flat_map, ap, sym, refl, ◌∙◌, inl, inr}
use Rattle.std.proofs.lemmas.Bool.{true≢false}
use Rattle.amqp_terms.specs.declared.event.HubEvent.{HubEvent}
use Rattle.amqp_terms.specs.declared.event.Outs.{Outs}
use Rattle.history_model.specs.Answers.{answers}
use Rattle.history_model.specs.Arrivals.{Arrival, Hears}
use Rattle.history_model.specs.Standing.{world}
use Rattle.history_model.specs.State.{state, covered}
use Rattle.broker_engine.specs.Trace.{sent_before}
use Rattle.broker_engine.specs.Wire.{out_octets}
use Rattle.hub_core.specs.declared.hub.Hub.{Hub}
use Rattle.line_runs.specs.declared.tool.Stop.{Stop}
use Rattle.line_runs.specs.declared.tool.Stop.TheVariants.{Unbuilt}
use Rattle.trace_tool.specs.Hearing.{UnitTold, UnitDone}
use Rattle.trace_tool.proofs.hearing.hear_unit.Goals as goal

done_by : {K : Type 0} (hub : Hub K) (h : List Arrival) (e : HubEvent) (old new : List ℕ) (r : Result (Unit {0}) Stop) → (covered (world h) (state h) e ≡ true → UnitTold hub h e old new r)
    → UnitDone hub h e old new r
done_by hub h e old new r told = by_covered (covered (world h) (state h) e) refl
  where
    by_covered : (b : Bool) → covered (world h) (state h) e ≡ b → UnitDone hub h e old new r
    by_covered true is = inr (told is)
    by_covered false is = inl (λ rest. ap (λ b. if b then sent_before (flat_map out_octets (answers (world h) e)) (rest (Hears e ∷ h)) else None) is)

pub returns-in-Ok-written-clause-heard : goal.returns-in-Ok-written-clause-heard
returns-in-Ok-written-clause-heard g c = λ h s wide.
    let e = c.args.event in
    let text = flat_map out_octets (answers (world h) e) in
    done_by c.step.new.self h e c.args.sent.now.items _ (Ok tt) (λ is.
    let did = c.in-Ok.ensures.steps h s is in
    record {
      more = text;
      goes = λ rest. ap (λ b. if b then sent_before text (rest (Hears e ∷ h)) else None) is;
      sent = c.in-Ok-written.ensures wide ∙ ap (λ units. c.args.sent.now.items ++ flat_map out_octets units) (c.as_slice.ensures ∙ ap (λ (o : Outs). o.units) did.0);
      serves = did.1;
    })

pub returns-then-not-builds-clause-heard : goal.returns-then-not-builds-clause-heard
returns-then-not-builds-clause-heard g c = λ h s wide.
    done_by c.args.hub.now h c.args.event c.args.sent.now.items c.args.sent.now.items (Err Unbuilt) (λ is. let e : false ≡ true = c.if-not-builds.ensures h s is in true≢false (sym e))
