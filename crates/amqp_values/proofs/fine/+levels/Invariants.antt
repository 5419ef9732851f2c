-- The most levels so far.
use Rattle.std.proofs.Common.{◌≡◌, map, take}
use Rattle.amqp_values.specs.Spelling.{told, told_pair, deepest, deepest_pair, counted_upto}
use Rattle.amqp_values.proofs.fine.+levels.Given as goal

abbrev pub invariant-item_levels-loop-item : goal.invariant-item_levels-loop-item
invariant-item_levels-loop-item l = l.most ≡ counted_upto (deepest (map told (take l.item-index l.items)))

abbrev pub invariant-pair_levels-loop-pair : goal.invariant-pair_levels-loop-pair
invariant-pair_levels-loop-pair l = l.most ≡ counted_upto (deepest_pair (map told_pair (take l.pair-index l.pairs)))
