-- The keys of the rest are fine where all are.
use Rattle.std.proofs.Common.{◌≡◌, length, map}
use Rattle.amqp_values.specs.Spelling.{told_pair, keys_fine}
use Rattle.amqp_values.proofs.fine.are_keys.Given as goal

abbrev pub invariant-loop-first : goal.invariant-loop-first
invariant-loop-first l = keys_fine (map told_pair l.rest) ≡ keys_fine (map told_pair l.pairs)

abbrev pub decreases-loop-first : goal.decreases-loop-first
decreases-loop-first l = length l.rest
