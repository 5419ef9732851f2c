-- Each unit goes on where the last one ended.
use Rattle.std.proofs.Common.{◌∙◌, ◌++◌, sym, subst, refl, inr}
use Rattle.trace_tool.proofs.Pieces.{GoesOn, going_start, goes_more, piece_ends, piece_closes, piece_stopped, going_shut, tested_empty}
use Rattle.trace_tool.proofs.hearing.hear_piece.Goals as goal

-- nothing was heard yet
pub loop-rest-init : goal.loop-rest-init
loop-rest-init g c = (λ h before s t. inr (going_start c.args.hub.now c.args.conn.now h c.args.number before c.args.octets.now c.args.sent.now.items s t), refl)

-- one unit more
pub loop-rest-preserved : goal.loop-rest-preserved
loop-rest-preserved g c = (
  λ h before s t.
      subst (λ xs. GoesOn c.hear_some.new.hub c.hear_some.new.conn h c.args.number before c.args.octets.now xs c.args.sent.now.items c.hear_some.new.sent.items) (sym c.split_at.ensures.back)
      (goes_more c.loop-rest.hub c.hear_some.new.hub c.loop-rest.conn c.hear_some.new.conn h c.args.number before c.args.octets.now c.loop-rest.rest.now c.args.sent.now.items c.loop-rest.sent.items c.hear_some.new.sent.items
      c.in-Ok.heard c.in-None.is (λ i. c.in-Ok.ensures.heard i.then_ (before ++ i.front) i.serves i.talks) (c.loop-rest.invariant.0 h before s t)),
  c.in-Ok.ensures.keeper ∙ c.loop-rest.invariant.1,
)

-- a Closed connection hears nothing
pub returns-then-is_closed-clause-heard : goal.returns-then-is_closed-clause-heard
returns-then-is_closed-clause-heard g c = λ h before s t. inr (going_shut _ _ h _ before _ _ (sym (c.if-is_closed.ensures before t)) s t)

-- the connection is closed
pub returns-in-Some-clause-heard : goal.returns-in-Some-clause-heard
returns-in-Some-clause-heard g c = λ h before s t.
    piece_closes c.loop-rest.hub c.hear_some.new.hub c.loop-rest.conn c.hear_some.new.conn h c.args.number before c.args.octets.now c.loop-rest.rest.now c.args.sent.now.items c.loop-rest.sent.items c.hear_some.new.sent.items
    c.in-Ok.heard _ c.in-Some.is (sym (c.if-is_closed.ensures before t)) (λ i. c.in-Ok.ensures.heard i.then_ (before ++ i.front) i.serves i.talks) (c.loop-rest.invariant.0 h before s t)

-- a unit isn't built, or memory is wanting
pub returns-in-Err-clause-heard : goal.returns-in-Err-clause-heard
returns-in-Err-clause-heard g c = λ h before s t.
    piece_stopped c.loop-rest.hub c.hear_some.new.hub c.loop-rest.conn c.hear_some.new.conn h c.args.number before c.args.octets.now c.loop-rest.rest.now c.args.sent.now.items c.loop-rest.sent.items c.hear_some.new.sent.items
    c.in-Err.stop (sym (c.if-is_closed.ensures before t)) (λ i. c.in-Err.ensures.heard i.then_ (before ++ i.front) i.serves i.talks) (c.loop-rest.invariant.0 h before s t)

-- all is heard
pub returns-in-Ok-drain-clause-heard : goal.returns-in-Ok-drain-clause-heard
returns-in-Ok-drain-clause-heard g c = λ h before s t.
    piece_ends c.loop-rest.hub c.drain.new.hub c.loop-rest.conn h c.args.number before c.args.octets.now c.loop-rest.rest.now c.args.sent.now.items c.loop-rest.sent.items c.drain.new.sent.items (sym (c.if-is_closed.ensures before t))
    (tested_empty c.loop-rest.rest.now c.loop-rest-test.ensures) (λ i serves wide. c.in-Ok-drain.ensures.drains i serves wide) (c.loop-rest.invariant.0 h before s t)
