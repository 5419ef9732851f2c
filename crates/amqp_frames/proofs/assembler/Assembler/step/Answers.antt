-- A step takes an octet of a header, or a run of a payload.
use Rattle.std.proofs.Common.{Ok, take, subst}
use Rattle.amqp_frames.specs.Stands.{Took}
use Rattle.amqp_frames.proofs.Taking.{step_octet, step_run, take_one}
use Rattle.amqp_frames.proofs.assembler.Assembler.step.Goals as goal

pub returns-then-self-eq0-clause-took : goal.returns-then-self-eq0-clause-took
returns-then-self-eq0-clause-took c = λ limits first cutting s none.
    subst (λ xs. Took c.take_octet.new.self limits first cutting xs (Ok c.in_ok-step.step)) (take_one c.args.piece.now c.requires)
    (step_octet c.args.self.now c.take_octet.new.self limits first cutting _ (Ok c.in_ok-step.step) s none c.if-self-eq0.true (λ frames rest b. c.in_ok-step.ensures.after limits first frames rest b))

pub returns-clause-took : goal.returns-clause-took
returns-clause-took c = λ limits first cutting s none.
    step_run c.args.self.now c.take_payload.new.self limits first cutting (take c.min-taken.result c.args.piece.now) (Ok c.in_ok-step-2.step) s none c.if-self-eq0.false
    (λ frames rest w. c.in_ok-step-2.ensures.took limits first frames rest w)
