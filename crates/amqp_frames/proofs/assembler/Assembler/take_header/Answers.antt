-- A header is refused, or its frame begins.
use Rattle.std.proofs.Common.{◌≡◌, ◌+◌, ◌-◌, ◌^◌, min, [], None, ◌∙◌, ap, sym, subst, refl}
use Rattle.amqp_frames.specs.Cut.{Faults, place_after, checked, grown, frame_fault}
use Rattle.amqp_frames.specs.Stands.{After}
use Rattle.amqp_frames.proofs.Lanes.{fault_is, frame_begins}
use Rattle.amqp_frames.proofs.Taking.{log_then}
use Rattle.amqp_frames.proofs.assembler.Assembler.take_header.Goals as goal

pub returns-in-Some-clause-after : goal.returns-in-Some-clause-after
returns-in-Some-clause-after c = λ limits first frames rest s twelve is. (
  frames,
  ap (λ o. checked o (place_after first frames) frames rest) (sym (c.in-Some.ensures ∙ fault_is c.args.self.now limits first frames [] c.args.header s))
      ∙ ap (λ n. Faults frames n c.in-Some.why) (sym s.at_is),
)

pub returns-in_ok-begin-in-None-clause-after : goal.returns-in_ok-begin-in-None-clause-after
returns-in_ok-begin-in-None-clause-after c = λ limits first frames rest s twelve is.
    let none : None ≡ frame_fault (limits (place_after first frames)) (place_after first frames) c.args.header frames =
    c.in-None.ensures ∙ fault_is c.args.self.now limits first frames [] c.args.header s in
    subst (λ o. After c.ended.new.self limits first (checked o (place_after first frames) frames rest) c.ended.result) none
    (subst (λ n. After c.ended.new.self limits first (grown n frames rest) c.ended.result) s.at_is
    (c.ended.ensures.after limits first frames rest
    (frame_begins c.args.self.now _ limits first frames rest c.args.header s twelve is none c.payload-payload.ensures.small refl refl refl refl refl c.payload-payload.ensures.value
    (c.saturating_add-self.ensures ∙ ap (λ n. min (c.args.self.now.front.unfinished + n) (2 ^ 32 - 1)) c.payload-payload.ensures.value) c.in_ok-begin-in-None.ensures.began)))

pub returns-in_ok-begin-in-None-clause-log : goal.returns-in_ok-begin-in-None-clause-log
returns-in_ok-begin-in-None-clause-log c = log_then c.args.self.now _ c.ended.new.self c.ended.result
    (record { max_is = refl; fault_is = refl; undone_is = c.in_ok-begin-in-None.ensures.undone; reach = c.in_ok-begin-in-None.ensures.reach }) c.ended.ensures.log
