-- The fields so far.
use Rattle.std.proofs.Common.{◌≡◌, take, map}
use Rattle.amqp_packed.specs.Lent.{lent}
use Rattle.amqp_packed.proofs.write.lent_of.Given as goal

abbrev pub invariant-loop-field : goal.invariant-loop-field
invariant-loop-field l = map lent l.refs.items ≡ take l.field-index l.fields
