-- What the assembler gives takes the course on.
use Rattle.std.proofs.Common.{Err, ◌∙◌, ap, subst}
use Rattle.amqp_frames.specs.declared.done.FrameFault.{FrameFault}
use Rattle.amqp_frames.specs.Stands.{Feeds}
use Rattle.octet_tools.specs.declared.course.Stop.TheVariants as stop
use Rattle.octet_tools.specs.Course.{limits}
use Rattle.octet_tools.proofs.Taking.{fed_none, fed_done, fed_refused}
use Rattle.octet_tools.proofs.course.step_frames.Goals as goal

pub returns-in-None-clause-steps : goal.returns-in-None-clause-steps
returns-in-None-clause-steps c = λ d s.
    fed_none c.args.tool c.args.assembler.now c.feed.new.self d c.args.piece.now c.in-Ok.fed.taken c.in-Ok.fed.done c.args.text.now.items s (λ first octets stands. c.in-Ok.ensures.feeds limits first octets stands) c.in-None.is

pub returns-in-Ok-take_done-clause-steps : goal.returns-in-Ok-take_done-clause-steps
returns-in-Ok-take_done-clause-steps c = λ d s.
    fed_done c.args.tool c.args.assembler.now c.feed.new.self d c.args.piece.now c.in-Ok.fed.taken c.in-Ok.fed.done c.in-Some.done c.args.text.now.items c.take_done.new.text.items _ s
    (λ first octets stands. c.in-Ok.ensures.feeds limits first octets stands) c.in-Some.is c.in-Ok-take_done.ensures

pub returns-in-Ok-clause-steps : goal.returns-in-Ok-clause-steps
returns-in-Ok-clause-steps c = λ d s.
    fed_done c.args.tool c.args.assembler.now c.feed.new.self d c.args.piece.now c.in-Ok.fed.taken c.in-Ok.fed.done c.in-Some.done c.args.text.now.items c.take_done.new.text.items (Err c.in-Err.stop) s
    (λ first octets stands. c.in-Ok.ensures.feeds limits first octets stands) c.in-Some.is c.in-Err.ensures

pub returns-in-Err-Bad-clause-steps : goal.returns-in-Err-Bad-clause-steps
returns-in-Err-Bad-clause-steps c = λ d s.
    fed_refused c.args.tool c.args.assembler.now c.feed.new.self d c.args.piece.now c.in-Err-Bad.fault c.stop_of.result c.args.text.now.items s
    (λ first octets stands. subst (λ e. Feeds c.feed.new.self limits first octets c.args.piece.now (Err e)) c.in-Err-Bad.field-0-is (c.in-Err-Bad.ensures.feeds limits first octets stands)) (c.stop_of.ensures ∙ ap (λ (f : FrameFault). stop.Malformed f.at f.why) c.in-Err-Bad.fault-is)
