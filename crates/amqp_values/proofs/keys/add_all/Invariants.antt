-- The keys that were noted so far.
use Rattle.std.proofs.Common.{◌≡◌, [], take}
use Rattle.amqp_values.specs.Values.{SeesAll}
use Rattle.amqp_values.proofs.keys.add_all.Given as goal

abbrev pub invariant-loop-pair : goal.invariant-loop-pair
invariant-loop-pair l = l.initial.seen.keys ≡ [] → SeesAll l.seen.keys (take l.pair-index l.pairs)
