-- The structs so far.
use Rattle.std.proofs.Common.{◌≡◌, length, take}
use Rattle.amqp_values.specs.Spelling.{counted_upto}
use Rattle.amqp_structs.specs.Header.{header_octets}
use Rattle.amqp_structs.proofs.write.structs_size.Given as goal

abbrev pub invariant-loop-item : goal.invariant-loop-item
invariant-loop-item l = l.size ≡ counted_upto (length (header_octets (take l.item-index l.items)))
