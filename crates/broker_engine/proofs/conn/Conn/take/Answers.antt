-- A unit is handed out, unless it is meant for the connection itself.
use Rattle.std.proofs.Common.{length, Option, ℕ, subst}
use Rattle.amqp_terms.specs.declared.unit.Unit.{Unit as AnyUnit}
use Rattle.broker_engine.specs.declared.conn.Conn.{Conn}
use Rattle.broker_engine.specs.Talk.{talk, says}
use Rattle.broker_engine.specs.Feeds.{Fits}
use Rattle.broker_engine.proofs.Own.{feeds_unit}
use Rattle.broker_engine.proofs.conn.Conn.take.Goals as goal

pub returns-in-Some-clause-feeds : goal.returns-in-Some-clause-feeds
returns-in-Some-clause-feeds c = λ before t.
    let f = c.in_ok-fed.ensures.feeds before t.talks in
    let fed = c.in_ok-fed.fed in
    let piece = c.args.piece.now in
    let mid : Conn = record c.args.self.now { intake = c.feed.new.self } in
    let fits = subst (λ (o : Option (ℕ × AnyUnit)). Fits (says (talk before) piece) (length piece) (record { taken = fed.taken; unit = o; closed = fed.closed }) c.args.out.now.items c.feed.new.out.items) c.in-Some.is f.1 in
    feeds_unit mid c.hear.new.self c.hear.result before piece fed.taken _ _ fed.closed c.args.out.now.items c.feed.new.out.items c.hear.new.out.items
    fits (record { begun = t.begun; is_open = t.is_open; wide = t.wide; talks = f.0 }) c.hear.ensures.passes
