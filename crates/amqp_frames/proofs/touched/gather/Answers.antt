-- The octets before are noted, and so those that came are taken back.
use Rattle.std.proofs.Common.{◌∙◌, ap, ◌<◌, length, set, arith}
use Rattle.amqp_frames.specs.declared.touched.Touch.{Touch}
use Rattle.amqp_frames.specs.Lane.{restored}
use Rattle.amqp_frames.specs.Touched.{lane_in, undone}
use Rattle.amqp_frames.proofs.Touching.{changed_back, push_back, found}
use Rattle.amqp_frames.proofs.touched.gather.Goals as goal

pub returns-clause-undone : goal.returns-clause-undone
returns-clause-undone c = λ i.
    let x = c.index_mut-lane.result.now in
    let lanes = c.make_lanes.new.lanes.items in
    let there : c.lane_number-number.result < length lanes = omega (arith, c.in_ok-make_lanes.ensures.there) in
    let t : Touch = record { lane = c.lane_number-number.result; kind = c.args.header.kind; len = c.len.result; mark = x.mark } in
    ap (λ l. undone l (lane_in (set lanes t.lane c.push-2.new.self)) i) c.in_ok-push.ensures.items
    ∙ changed_back c.args.log.now.items lanes t c.push-2.new.self (lane_in c.args.lanes.now.items) there c.in_ok-make_lanes.ensures.same
    (ap (λ n. restored t.kind n t.mark c.push-2.new.self) c.len.ensures ∙ push_back t.kind x c.push-2.new.self c.args.octets.now c.push-2.result c.push-2.ensures.ok c.push-2.ensures.err ∙ found lanes t.lane x there c.index_mut-lane.ensures.value) i
