-- What the assembler gives is what the octets say.
use Rattle.std.proofs.Common.{Err, ◌++◌, take, length, sym, subst, refl}
use Rattle.amqp_frames.specs.Cut.{cut}
use Rattle.amqp_frames.specs.Stands.{Comes, Feeds as Gives}
use Rattle.broker_engine.specs.declared.intake.State.TheVariants as state
use Rattle.broker_engine.specs.Feeds.{TalksAs}
use Rattle.broker_engine.proofs.Saying.{limits, feeds_waits, feeds_done, feeds_refused, feeds_shut, if_ok, read_takes}
use Rattle.broker_engine.proofs.intake.Intake.feed.Goals as goal

pub returns-in-Closed-clause-feeds : goal.returns-in-Closed-clause-feeds
returns-in-Closed-clause-feeds c = λ before t.
    let f = feeds_shut before c.args.piece.now c.args.out.now.items (subst (λ s. TalksAs s before) c.in-Closed.is t) in
    (subst (λ s. TalksAs s (before ++ take (length c.args.piece.now) c.args.piece.now)) (sym c.in-Closed.is) f.0, f.1)

pub returns-in-None-clause-feeds : goal.returns-in-None-clause-feeds
returns-in-None-clause-feeds c = λ before t.
    let s : TalksAs (state.Open c.in-Open.assembler) before = subst (λ s. TalksAs s before) c.in-Open.is t in
    let f = c.in-Ok.ensures.feeds limits 0 before s.1 in
    feeds_waits c.feed.new.self before c.args.piece.now c.in-Ok.fed.taken c.args.out.now.items c.args.out.now.items s.0 f.0
    (subst (Comes limits 0 (cut limits 0 before) c.args.piece.now c.in-Ok.fed.taken) c.in-None.is f.1) refl

pub returns-in-Some-clause-feeds : goal.returns-in-Some-clause-feeds
returns-in-Some-clause-feeds c = λ before t.
    let s : TalksAs (state.Open c.in-Open.assembler) before = subst (λ s. TalksAs s before) c.in-Open.is t in
    let f = c.in-Ok.ensures.feeds limits 0 before s.1 in
    if_ok c.read.result _ _
    (λ fed r. feeds_done c.feed.new.self c.read.new.self.state before c.args.piece.now c.in-Ok.fed.taken c.in-Some.done fed c.args.out.now.items c.read.new.out.items s.0 c.in-Ok.ensures.takes.0 f.0
    (subst (Comes limits 0 (cut limits 0 before) c.args.piece.now c.in-Ok.fed.taken) c.in-Some.is f.1) r) c.read.ensures

pub returns-in-Some-clause-takes : goal.returns-in-Some-clause-takes
returns-in-Some-clause-takes c = read_takes c.read.result c.args.piece.now _ c.in-Ok.fed.taken _ _ _ _ c.in-Ok.ensures.takes.0 c.in-Ok.ensures.takes.1 c.read.ensures

pub returns-in-Err-Bad-clause-feeds : goal.returns-in-Err-Bad-clause-feeds
returns-in-Err-Bad-clause-feeds c = λ before t.
    let s : TalksAs (state.Open c.in-Open.assembler) before = subst (λ s. TalksAs s before) c.in-Open.is t in
    let f = subst (λ e. Gives c.feed.new.self limits 0 before c.args.piece.now (Err e)) c.in-Err-Bad.field-0-is (c.in-Err-Bad.ensures.feeds limits 0 before s.1) in
    if_ok c.close.result _ _
    (λ fed r. feeds_refused before c.args.piece.now c.in-Err-Bad.fault c.close.new.self.state fed c.args.out.now.items c.close.new.out.items s.0 f.1 r.0 r.1 r.2) c.close.ensures
