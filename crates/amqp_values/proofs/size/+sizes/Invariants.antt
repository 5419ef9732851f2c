-- The octets of the items so far.
use Rattle.std.proofs.Common.{◌≡◌, ◌+◌, length, take}
use Rattle.amqp_values.specs.Spelling.{pairs_octets, items_octets, values_octets, counted_upto}
use Rattle.amqp_values.proofs.size.+sizes.Given as goal

abbrev pub invariant-items_size-loop-item : goal.invariant-items_size-loop-item
invariant-items_size-loop-item l = l.size ≡ counted_upto (8 + length (items_octets (take l.item-index l.items)))

abbrev pub invariant-pairs_size-loop-pair : goal.invariant-pairs_size-loop-pair
invariant-pairs_size-loop-pair l = l.size ≡ counted_upto (8 + length (pairs_octets (take l.pair-index l.pairs)))

abbrev pub invariant-values_size-loop-item : goal.invariant-values_size-loop-item
invariant-values_size-loop-item l = l.size ≡ counted_upto (9 + length (values_octets (take l.item-index l.items)))
