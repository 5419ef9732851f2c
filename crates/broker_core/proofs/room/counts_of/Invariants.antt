-- So many were counted of those before.
use Rattle.std.proofs.Common.{◌≡◌, take}
use Rattle.std.specs.List.{count_by}
use Rattle.broker_core.specs.Edits.{is_exchange, is_binding, is_queue, is_own}
use Rattle.broker_core.proofs.room.counts_of.Given as goal

abbrev pub invariant-loop-index : goal.invariant-loop-index
invariant-loop-index l =
    (l.counts.exchanges ≡ count_by is_exchange (take l.index l.edits))
    × (l.counts.bindings ≡ count_by is_binding (take l.index l.edits))
    × (l.counts.queues ≡ count_by is_queue (take l.index l.edits))
    × (l.counts.own ≡ count_by is_own (take l.index l.edits))
