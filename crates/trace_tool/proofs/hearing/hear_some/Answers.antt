-- A unit, an end, or nothing, as the connection gave it.
use Rattle.std.proofs.Common.{ℕ, List, ◌++◌, length, take, Option, None, Some, Result, Ok, Err, subst, inl, inr}
use Rattle.amqp_terms.specs.declared.unit.Unit.{Unit as AnyUnit}
use Rattle.history_model.specs.Arrivals.{Arrival}
use Rattle.broker_engine.specs.declared.conn.Conn.{Conn}
use Rattle.broker_engine.specs.declared.intake.Closing.{Closing}
use Rattle.broker_engine.specs.declared.intake.Fed.{Fed}
use Rattle.broker_engine.specs.Feeds.{Talks, Fits, Feeds}
use Rattle.broker_engine.specs.Talk.{talk, says}
use Rattle.hub_core.specs.declared.hub.Hub.{Hub}
use Rattle.line_runs.specs.declared.tool.Stop.{Stop}
use Rattle.trace_tool.specs.declared.hearing.Heard.{Heard}
use Rattle.trace_tool.specs.Hearing.{SomeDone}
use Rattle.trace_tool.proofs.Pieces.{told, ended, waited, some_done, some_stopped, some_end, some_none, own_lacks}
use Rattle.trace_tool.proofs.hearing.hear_some.Goals as goal

-- nothing is said of a unit for the connection itself
of_fed : {K : Type 0} (hub : Hub K) (conn fed_conn : Conn) (h : List Arrival) (n : ℕ) (before octets old mid new : List ℕ) (fed : Fed) (r : Result Heard Stop)
    → Feeds fed_conn before octets old mid fed
    → (Talks fed_conn (before ++ take fed.taken octets) → Fits (says (talk before) octets) (length octets) fed old mid → SomeDone hub conn h n before octets old new r)
    → SomeDone hub conn h n before octets old new r
of_fed hub conn fed_conn h n before octets old mid new fed r (inl own) done = inl (own_lacks h n before octets own)
of_fed hub conn fed_conn h n before octets old mid new fed r (inr f) done = done f.0 f.1

pub returns-in-Ok-hear_unit-clause-heard : goal.returns-in-Ok-hear_unit-clause-heard
returns-in-Ok-hear_unit-clause-heard g c = λ h before s t.
    let octets = c.args.octets.now in
    let fed = c.in-Ok.fed in
    of_fed c.hear_unit.new.hub c.feed.new.self c.feed.new.self h c.args.number before octets c.args.sent.now.items c.feed.new.out.items c.hear_unit.new.sent.items fed (Ok (record { taken = fed.taken; refused = None })) (c.in-Ok.ensures.feeds before t) (λ talks f.
    let fits = subst (λ (o : Option (ℕ × AnyUnit)). Fits (says (talk before) octets) (length octets) (record { taken = fed.taken; unit = o; closed = fed.closed }) c.args.sent.now.items c.feed.new.out.items) c.in-Some.is f in
    some_done _ _ h _ before octets _ _ _ fed.taken _ _ (told _ _ _ _ _ _ _ _ fits) talks (c.in-Ok-hear_unit.ensures.heard h s talks.wide))

pub returns-in-Err-hear_unit-clause-heard : goal.returns-in-Err-hear_unit-clause-heard
returns-in-Err-hear_unit-clause-heard g c = λ h before s t.
    let octets = c.args.octets.now in
    let fed = c.in-Ok.fed in
    of_fed c.hear_unit.new.hub c.feed.new.self c.feed.new.self h c.args.number before octets c.args.sent.now.items c.feed.new.out.items c.hear_unit.new.sent.items fed (Err c.in-Err-hear_unit.stop) (c.in-Ok.ensures.feeds before t) (λ talks f.
    let fits = subst (λ (o : Option (ℕ × AnyUnit)). Fits (says (talk before) octets) (length octets) (record { taken = fed.taken; unit = o; closed = fed.closed }) c.args.sent.now.items c.feed.new.out.items) c.in-Some.is f in
    some_stopped c.hear_unit.new.hub c.feed.new.self h c.args.number before octets c.args.sent.now.items c.feed.new.out.items c.hear_unit.new.sent.items fed.taken _ _ c.in-Err-hear_unit.stop (told _ _ _ _ _ _ _ _ fits) (c.in-Err-hear_unit.ensures.heard h s talks.wide))

pub returns-in-Ok-lose-clause-heard : goal.returns-in-Ok-lose-clause-heard
returns-in-Ok-lose-clause-heard g c = λ h before s t.
    let octets = c.args.octets.now in
    let fed = c.in-Ok.fed in
    of_fed c.lose.new.hub c.feed.new.self c.feed.new.self h c.args.number before octets c.args.sent.now.items c.feed.new.out.items c.feed.new.out.items fed (Ok (record { taken = fed.taken; refused = Some c.in-Some-closed.closing })) (c.in-Ok.ensures.feeds before t) (λ talks f.
    let no_unit = subst (λ (o : Option (ℕ × AnyUnit)). Fits (says (talk before) octets) (length octets) (record { taken = fed.taken; unit = o; closed = fed.closed }) c.args.sent.now.items c.feed.new.out.items) c.in-None.is f in
    let fits = subst (λ (o : Option Closing). Fits (says (talk before) octets) (length octets) (record { taken = fed.taken; unit = None; closed = o }) c.args.sent.now.items c.feed.new.out.items) c.in-Some-closed.is no_unit in
    inr (some_end c.lose.new.hub c.feed.new.self h c.args.number before octets _ _ fed.taken _ (ended _ _ _ _ _ _ fits) talks (c.in-Ok-lose.ensures.loses h s)))

pub returns-in-None-closed-clause-heard : goal.returns-in-None-closed-clause-heard
returns-in-None-closed-clause-heard g c = λ h before s t.
    let octets = c.args.octets.now in
    let fed = c.in-Ok.fed in
    of_fed c.args.hub.now c.feed.new.self c.feed.new.self h c.args.number before octets c.args.sent.now.items c.feed.new.out.items c.feed.new.out.items fed (Ok (record { taken = fed.taken; refused = None })) (c.in-Ok.ensures.feeds before t) (λ talks f.
    let no_unit = subst (λ (o : Option (ℕ × AnyUnit)). Fits (says (talk before) octets) (length octets) (record { taken = fed.taken; unit = o; closed = fed.closed }) c.args.sent.now.items c.feed.new.out.items) c.in-None.is f in
    let fits = subst (λ (o : Option Closing). Fits (says (talk before) octets) (length octets) (record { taken = fed.taken; unit = None; closed = o }) c.args.sent.now.items c.feed.new.out.items) c.in-None-closed.is no_unit in
    inr (some_none c.args.hub.now c.feed.new.self h c.args.number before octets _ _ fed.taken (waited _ _ _ _ _ fits) talks s))
