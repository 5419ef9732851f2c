-- What is left to drop brings what all brings.
use Rattle.std.proofs.Common.{◌≡◌, ◌+◌, [], false, length, if◌then◌else◌}
use Rattle.broker_core.specs.State.{Stand}
use Rattle.broker_core.specs.Edits.{ActedAll}
use Rattle.broker_core.specs.Ends.{own_names, drops}
use Rattle.broker_core.proofs.broker.Broker.drop_all.Given as goal

abbrev pub invariant-loop-more : goal.invariant-loop-more
invariant-loop-more l =
    ((new : Stand) → ActedAll (drops (own_names l.session l.self.owned.entries)) l.self new → ActedAll (drops (own_names l.session l.fn.self.owned.entries)) l.fn.self new)
    × (l.more ≡ false → own_names l.session l.self.owned.entries ≡ [])

abbrev pub decreases-loop-more : goal.decreases-loop-more
decreases-loop-more l = length (own_names l.session l.self.owned.entries) + (if l.more then 1 else 0)
