-- The octets of the items so far were put.
use Rattle.std.proofs.Common.{◌≡◌, ◌++◌, take}
use Rattle.amqp_values.specs.Spelling.{pairs_octets, items_octets, values_octets}
use Rattle.amqp_values.proofs.write.+writing.Given as goal

abbrev pub invariant-put_map-loop-pair : goal.invariant-put_map-loop-pair
invariant-put_map-loop-pair l = l.out.items ≡ l.initial.out.items ++ pairs_octets (take l.pair-index l.pairs)

abbrev pub invariant-put_list-loop-item : goal.invariant-put_list-loop-item
invariant-put_list-loop-item l = l.out.items ≡ l.initial.out.items ++ items_octets (take l.item-index l.items)

abbrev pub invariant-put_array-loop-item : goal.invariant-put_array-loop-item
invariant-put_array-loop-item l = l.out.items ≡ l.initial.out.items ++ values_octets (take l.item-index l.items)
