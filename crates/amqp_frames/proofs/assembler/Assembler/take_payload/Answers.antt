-- A run of the payload comes.
use Rattle.std.proofs.Common.{◌++◌, ap, subst, refl, arith}
use Rattle.amqp_frames.specs.declared.header.FrameHeader.{FrameHeader}
use Rattle.amqp_frames.specs.Cut.{grown}
use Rattle.amqp_frames.specs.Stands.{After}
use Rattle.amqp_frames.proofs.Octets.{run_grows}
use Rattle.amqp_frames.proofs.Lanes.{run_comes}
use Rattle.amqp_frames.proofs.Taking.{took_run, log_then}
use Rattle.amqp_frames.proofs.assembler.Assembler.take_payload.Goals as goal

pub returns-clause-took : goal.returns-clause-took
returns-clause-took c = λ limits first frames rest w.
    took_run c.ended.new.self limits first frames rest c.args.run.now c.ended.result
    (run_grows limits first frames rest c.args.run.now w.long c.requires.low (omega (arith, c.requires.high, w.need_is, ap (λ (h : FrameHeader). h.size) w.header_is)))
    (subst (λ n. After c.ended.new.self limits first (grown n frames (rest ++ c.args.run.now)) c.ended.result) w.at_is
    (c.ended.ensures.after limits first frames (rest ++ c.args.run.now)
    (run_comes c.args.self.now _ limits first frames rest c.args.run.now w c.requires.high refl refl refl refl refl refl refl c.in_ok-gather.ensures.gathered)))

pub returns-clause-log : goal.returns-clause-log
returns-clause-log c = log_then c.args.self.now _ c.ended.new.self c.ended.result
    (record { max_is = refl; fault_is = refl; undone_is = c.in_ok-gather.ensures.undone; reach = c.in_ok-gather.ensures.reach }) c.ended.ensures.log
