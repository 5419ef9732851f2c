-- The frame came whole.
use Rattle.std.proofs.Common.{◌≡◌, ◌∙◌, sym, arith}
use Rattle.amqp_frames.proofs.Taking.{after_whole, after_quiet}
use Rattle.amqp_frames.proofs.assembler.Assembler.ended.Goals as goal

pub returns-in-Some-clause-after : goal.returns-in-Some-clause-after
returns-in-Some-clause-after c = λ limits first frames rest w.
    let none : c.args.self.now.front.need ≡ 0 = omega (arith, c.if-self-gt0.false) in
    let e = c.in_ok-done.ensures.ends limits first frames rest w none in
    after_whole c.args.self.now c.end_frame.new.self limits first frames rest c.in-Some.done w none (sym c.in-Some.is ∙ e.0) e.1

pub returns-in-None-clause-after : goal.returns-in-None-clause-after
returns-in-None-clause-after c = λ limits first frames rest w.
    let none : c.args.self.now.front.need ≡ 0 = omega (arith, c.if-self-gt0.false) in
    let e = c.in_ok-done.ensures.ends limits first frames rest w none in
    after_quiet c.args.self.now c.end_frame.new.self limits first frames rest w none (sym c.in-None.is ∙ e.0) e.1
