-- The structs so far.
use Rattle.std.proofs.Common.{◌≡◌, ◌++◌, take}
use Rattle.amqp_structs.specs.Header.{header_octets}
use Rattle.amqp_structs.proofs.write.put_structs.Given as goal

abbrev pub invariant-loop-item : goal.invariant-loop-item
invariant-loop-item l = l.out.items ≡ l.initial.out.items ++ header_octets (take l.item-index l.items)
