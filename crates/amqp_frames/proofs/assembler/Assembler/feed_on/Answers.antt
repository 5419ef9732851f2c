-- A piece is taken, or refused, or taken back.
use Rattle.std.proofs.Common.{rules, Err, take, ◌∙◌, ap, subst, refl}
use Rattle.amqp_frames.specs.Cut.{cut}
use Rattle.amqp_frames.specs.Stands.{TookPiece}
use Rattle.amqp_frames.specs.Touched.{lane_in, undone}
use Rattle.amqp_frames.proofs.Taking.{fed_front, fed_refuses, stands_like}
use Rattle.amqp_frames.proofs.assembler.Assembler.feed_on.Goals as goal

pub returns-in-Ok-clause-feeds : goal.returns-in-Ok-clause-feeds
returns-in-Ok-clause-feeds c = λ limits first octets s.
    let t = c.in-Ok.ensures.took limits first (cut limits first octets) (stands_like c.args.self.now _ limits first (cut limits first octets) c.requires refl refl refl refl (λ i. refl) s) c.requires in
    (fed_front c.take.new.self limits first octets (take c.in-Ok.fed.taken c.args.piece.now) t.stands, t.comes)

pub returns-in-Err-Bad-clause-feeds : goal.returns-in-Err-Bad-clause-feeds
returns-in-Err-Bad-clause-feeds c = λ limits first octets s.
    fed_refuses c.args.self.now _ limits first octets c.args.piece.now c.in-Err-Bad.fault s c.requires refl (search rules)
    (subst (λ e. TookPiece c.take.new.self limits first (cut limits first octets) c.args.piece.now (Err e)) c.in-Err-Bad.field-0-is
    (c.in-Err-Bad.ensures.took limits first (cut limits first octets) (stands_like c.args.self.now _ limits first (cut limits first octets) c.requires refl refl refl refl (λ i. refl) s) c.requires))

pub returns-in-Err-NoMemory-clause-feeds : goal.returns-in-Err-NoMemory-clause-feeds
returns-in-Err-NoMemory-clause-feeds c = λ limits first octets s.
    let k = c.take.ensures.no_memory (c.in-Err-NoMemory.is ∙ ap Err c.in-Err-NoMemory.field-0-is) in
    stands_like c.args.self.now _ limits first (cut limits first octets) c.requires k.fault_is k.max_is c.copied-partial.ensures refl
    (λ i. c.undo.ensures i ∙ k.undone_is i ∙ ap (λ l. undone l (lane_in c.args.self.now.lanes.items) i) c.clear.ensures.items) s
