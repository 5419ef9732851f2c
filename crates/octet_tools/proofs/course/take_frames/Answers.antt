-- Steps follow one another.
use Rattle.std.proofs.Common.{sym, subst, arith}
use Rattle.octet_tools.specs.Course.{after}
use Rattle.octet_tools.proofs.Coursing.{Going, going_start, going_more, going_stops}
use Rattle.octet_tools.proofs.course.take_frames.Goals as goal

pub loop-rest-init : goal.loop-rest-init
loop-rest-init c = (λ d s. going_start c.args.tool c.args.assembler.now d c.args.piece.now c.args.text.now.items s, omega arith)

pub loop-rest-preserved : goal.loop-rest-preserved
loop-rest-preserved c = (
  λ d s.
      let g = c.loop-rest.invariant.0 d s in
      subst (λ xs. Going c.args.tool c.step_frames.new.assembler d c.args.piece.now xs c.args.text.now.items c.step_frames.new.text.items) (sym c.split_at.ensures.back)
      (going_more c.args.tool c.loop-rest.assembler c.step_frames.new.assembler d c.args.piece.now c.loop-rest.rest.now c.args.text.now.items c.loop-rest.text.items c.step_frames.new.text.items c.in-Ok.taken g
      (c.in-Ok.ensures.steps (after d g.front) g.at)),
  omega (arith, c.split_at.ensures.back_len, c.loop-rest.invariant.1),
)

pub returns-in-Err : goal.returns-in-Err
returns-in-Err c = λ d s.
    let g = c.loop-rest.invariant.0 d s in
    going_stops c.args.tool c.loop-rest.assembler c.step_frames.new.assembler d c.args.piece.now c.loop-rest.rest.now c.args.text.now.items c.loop-rest.text.items c.step_frames.new.text.items c.in-Err.stop g
    (c.in-Err.ensures.steps (after d g.front) g.at)
