-- The fields so far.
use Rattle.std.proofs.Common.{◌≡◌, ◌++◌, take, flat_map, map}
use Rattle.amqp_packed.specs.Spelling.{field_octets}
use Rattle.amqp_packed.specs.Lent.{lent}
use Rattle.amqp_packed.proofs.write.put_each.Given as goal

abbrev pub invariant-loop-field : goal.invariant-loop-field
invariant-loop-field l = l.out.items ≡ l.initial.out.items ++ flat_map field_octets (map lent (take l.field-index l.fields))
