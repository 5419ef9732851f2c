-- After a fault, its answer stays; what is kept is bounded.
use Rattle.amqp_frames.proofs.Keeping.{stands_kept, feeds_kept}
use Rattle.amqp_frames.proofs.Taking.{fed_faulty}
use Rattle.amqp_frames.proofs.assembler.Assembler.feed.Goals as goal

pub returns-in-Some-clause-feeds : goal.returns-in-Some-clause-feeds
returns-in-Some-clause-feeds c = λ limits first octets s. fed_faulty c.args.self.now limits first octets c.args.piece.now c.in-Some.fault s c.in-Some.is

pub returns-in-Some-clause-keeps : goal.returns-in-Some-clause-keeps
returns-in-Some-clause-keeps c = λ limits first octets s. stands_kept c.args.self.now limits first octets s

pub returns-in-None-clause-keeps : goal.returns-in-None-clause-keeps
returns-in-None-clause-keeps c = λ limits first octets s.
    feeds_kept c.feed_on.new.self limits first octets c.args.piece.now c.feed_on.result (c.feed_on.ensures.feeds limits first octets s)
