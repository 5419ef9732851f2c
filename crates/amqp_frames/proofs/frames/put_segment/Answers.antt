-- The loop over frames.
use Rattle.std.proofs.Common.{◌-◌, ◌++◌, length, arith}
use Rattle.amqp_frames.specs.Frames.{laid_segment}
use Rattle.amqp_frames.proofs.Laying.{on_ok, is_laid, goes_on}
use Rattle.amqp_frames.proofs.frames.put_segment.Goals as goal

pub returns-then-rest-most : goal.returns-then-rest-most
returns-then-rest-most c =
    on_ok c.put_frame.result _ _ c.put_frame.ensures
    (is_laid (length c.args.octets.now - c.loop.counter) c.args.most c.args.ends c.args.kind c.args.channel c.loop.first c.loop.rest.now c.loop.out.items c.put_frame.new.out.items c.args.out.now.items
    (laid_segment c.args.most c.args.ends c.args.kind c.args.channel c.args.octets.now) c.if-rest-most.true c.loop.invariant.0)

pub loop-preserved : goal.loop-preserved
loop-preserved c = (
  goes_on (length c.args.octets.now) c.loop.counter c.args.most c.args.ends c.args.kind c.args.channel c.loop.first c.loop.rest.now c.split_at.result.0.now c.split_at.result.1.now c.loop.out.items
      c.put_frame-in-loop.new.out.items (c.args.out.now.items ++ laid_segment c.args.most c.args.ends c.args.kind c.args.channel c.args.octets.now) c.loop-test.true (omega (arith, c.if-rest-most.false))
      c.split_at.ensures.front c.split_at.ensures.back c.loop.invariant.0 c.in_ok-put_frame.ensures,
  omega (arith, c.split_at.ensures.back_len, c.if-rest-most.false, c.requires.most.0, c.loop.invariant.1),
  omega arith,
)

pub returns : goal.returns
returns c =
    on_ok c.put_frame-2.result _ _ c.put_frame-2.ensures
    (is_laid (length c.args.octets.now - c.loop.counter) c.args.most c.args.ends c.args.kind c.args.channel c.loop.first c.loop.rest.now c.loop.out.items c.put_frame-2.new.out.items c.args.out.now.items
    (laid_segment c.args.most c.args.ends c.args.kind c.args.channel c.args.octets.now) (omega (arith, c.loop.invariant.1, c.loop-test.false, c.requires.most.0)) c.loop.invariant.0)
