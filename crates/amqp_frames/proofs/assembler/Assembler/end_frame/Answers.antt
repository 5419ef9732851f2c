-- The frame ends, and its assembly with it.
use Rattle.std.proofs.Common.{◌≡◌, ◌+◌, ◌∙◌, ap, sym, arith, refl, true}
use Rattle.amqp_frames.specs.Cut.{ends_assembly}
use Rattle.amqp_frames.specs.Touched.{lane_in, lane_number}
use Rattle.amqp_frames.proofs.Lanes.{assembly_ends, done_is}
use Rattle.amqp_frames.proofs.assembler.Assembler.end_frame.Goals as goal

pub returns-clause-ends : goal.returns-clause-ends
returns-clause-ends c = λ limits first frames rest w need.
    let a = c.args.self.now in
    let closes : ends_assembly a.front.header ≡ true = sym c.if-not-ends_assembly.ensures in
    let mark_is : c.mark_in-mark.result ≡ (lane_in a.lanes.items (lane_number a.front.header)).mark =
    c.mark_in-mark.ensures ∙ ap (λ n. (lane_in a.lanes.items n).mark) c.lane_number.ensures in
    let end_is : c.saturating_add-end.result ≡ a.front.at + a.front.header.size = omega (arith, c.saturating_add-end.ensures, c.from.ensures, w.near, w.size_low) in (
      done_is a limits first frames rest c.in_ok-assembly.assembly c.mark_in-mark.result c.saturating_add-end.result w closes c.in_ok-assembly.ensures.taken mark_is end_is,
      assembly_ends a _ limits first frames rest c.mark_in-mark.result w need closes refl refl refl need mark_is c.saturating_sub-self.ensures c.in_ok-assembly.ensures.emptied end_is,
    )
