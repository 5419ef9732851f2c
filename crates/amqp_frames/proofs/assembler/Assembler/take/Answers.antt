-- Steps follow one another.
use Rattle.std.proofs.Common.{Ok, take, ◌∙◌, sym, subst, arith}
use Rattle.amqp_frames.specs.Stands.{Took, LogKept}
use Rattle.amqp_frames.specs.Cut.{cut_on}
use Rattle.amqp_frames.proofs.Taking.{Going, going_more, going_gives, going_refuses, log_joined}
use Rattle.amqp_frames.proofs.assembler.Assembler.take.Goals as goal

pub loop-rest-preserved : goal.loop-rest-preserved
loop-rest-preserved c = (
  λ limits first cutting s none.
      let g = c.loop-rest.invariant.0 limits first cutting s none in
      subst (Going c.step.new.self limits first cutting c.args.piece.now) (sym c.split_at.ensures.back) (going_more c.loop-rest.self c.step.new.self limits first cutting c.args.piece.now c.loop-rest.rest.now c.in-Ok.stepped.taken g
      (subst (λ r. Took c.step.new.self limits first (cut_on limits first cutting g.front) (take c.in-Ok.stepped.taken c.loop-rest.rest.now) (Ok r)) c.in-Quiet.is
      (c.in-Ok.ensures.took limits first (cut_on limits first cutting g.front) g.stands (c.loop-rest.invariant.1.fault_is ∙ none)))),
  log_joined c.args.self.now c.loop-rest.self c.step.new.self c.loop-rest.invariant.1 (subst (λ r. LogKept c.loop-rest.self c.step.new.self (Ok r)) c.in-Quiet.is c.in-Ok.ensures.log),
  omega (arith, c.split_at.ensures.back_len, c.loop-rest.invariant.2),
)

pub returns-in-Done-clause-took : goal.returns-in-Done-clause-took
returns-in-Done-clause-took c = λ limits first cutting s none.
    let g = c.loop-rest.invariant.0 limits first cutting s none in
    going_gives c.loop-rest.self c.step.new.self limits first cutting c.args.piece.now c.loop-rest.rest.now c.in-Ok.stepped.taken _ c.in-Done.done g c.in-Ok.ensures.takes.1
    (omega (arith, c.split_at.ensures.back_len))
    (subst (λ r. Took c.step.new.self limits first (cut_on limits first cutting g.front) (take c.in-Ok.stepped.taken c.loop-rest.rest.now) (Ok r)) c.in-Done.is
    (c.in-Ok.ensures.took limits first (cut_on limits first cutting g.front) g.stands (c.loop-rest.invariant.1.fault_is ∙ none)))

pub returns-in-Bad-clause-took : goal.returns-in-Bad-clause-took
returns-in-Bad-clause-took c = λ limits first cutting s none.
    let g = c.loop-rest.invariant.0 limits first cutting s none in
    going_refuses c.loop-rest.self c.step.new.self limits first cutting c.args.piece.now c.loop-rest.rest.now c.in-Ok.stepped.taken c.in-Bad.fault g
    (subst (λ r. Took c.step.new.self limits first (cut_on limits first cutting g.front) (take c.in-Ok.stepped.taken c.loop-rest.rest.now) (Ok r)) c.in-Bad.is
    (c.in-Ok.ensures.took limits first (cut_on limits first cutting g.front) g.stands (c.loop-rest.invariant.1.fault_is ∙ none)))
