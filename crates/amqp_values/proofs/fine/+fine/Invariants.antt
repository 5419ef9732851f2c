-- All items so far are fine.
use Rattle.std.proofs.Common.{◌≡◌, ◌&&◌, eqb, true, map, take}
use Rattle.std.specs.List.{list_all}
use Rattle.amqp_values.specs.declared.value.Pair.{Pair}
use Rattle.amqp_values.specs.Spelling.{Told, told, told_pair}
use Rattle.amqp_values.proofs.fine.+fine.Given as goal

abbrev pub invariant-are_alike-loop-item : goal.invariant-are_alike-loop-item
invariant-are_alike-loop-item l = list_all (λ (t : Told). eqb t.code l.code && t.fine) (map told (take l.item-index l.items)) ≡ true

abbrev pub invariant-are_fine-loop-item : goal.invariant-are_fine-loop-item
invariant-are_fine-loop-item l = list_all (λ (t : Told). t.fine) (map told (take l.item-index l.items)) ≡ true

abbrev pub invariant-are_pairs-loop-pair : goal.invariant-are_pairs-loop-pair
invariant-are_pairs-loop-pair l = list_all (λ (p : Pair Told). p.value.fine) (map told_pair (take l.pair-index l.pairs)) ≡ true
