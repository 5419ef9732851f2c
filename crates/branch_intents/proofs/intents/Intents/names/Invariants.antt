-- Those left decide where all do.
use Rattle.std.proofs.Common.{◌≡◌, length}
use Rattle.std.specs.List.{list_any}
use Rattle.branch_intents.specs.Intents.{names}
use Rattle.branch_intents.proofs.intents.Intents.names.Given as goal

abbrev pub invariant-loop-intent : goal.invariant-loop-intent
invariant-loop-intent l = list_any (names l.queue) l.rest ≡ list_any (names l.queue) l.self.items

abbrev pub decreases-loop-intent : goal.decreases-loop-intent
decreases-loop-intent l = length l.rest
