-- The keeper stays.
use Rattle.std.proofs.Common.{◌≡◌}
use Rattle.hub_core.specs.Hub.{keeper_of as hub_keeper}
use Rattle.trace_tool.proofs.replay.tell_all.Given as goal

abbrev pub invariant-loop-connection : goal.invariant-loop-connection
invariant-loop-connection g l =
    (goal.iterator-loop-connection g).can_next l.connection-iterator
    × (goal.iterator-loop-connection g).is_finite l.connection-iterator
    × (hub_keeper l.hub ≡ hub_keeper l.initial.hub)
