-- The fields so far.
use Rattle.std.proofs.Common.{◌≡◌, length, take, flat_map, map}
use Rattle.amqp_values.specs.Spelling.{counted_upto}
use Rattle.amqp_packed.specs.Spelling.{field_octets}
use Rattle.amqp_packed.specs.Lent.{lent}
use Rattle.amqp_packed.proofs.size.size_of_each.Given as goal

abbrev pub invariant-loop-field : goal.invariant-loop-field
invariant-loop-field l = l.size ≡ counted_upto (length (flat_map field_octets (map lent (take l.field-index l.fields))))
