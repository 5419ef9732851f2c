-- The copies so far.
use Rattle.std.proofs.Common.{◌≡◌, take}
use Rattle.amqp_values.proofs.+copies.Given as goal

abbrev pub invariant-copy::items_copied-loop-item : goal.invariant-copy::items_copied-loop-item
invariant-copy::items_copied-loop-item l = l.copies ≡ take l.item-index l.items

abbrev pub invariant-copy::pairs_copied-loop-pair : goal.invariant-copy::pairs_copied-loop-pair
invariant-copy::pairs_copied-loop-pair l = l.copies ≡ take l.pair-index l.pairs
