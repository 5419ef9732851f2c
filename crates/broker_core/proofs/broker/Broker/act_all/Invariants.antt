-- What is left can be done, and brings what all brings.
use Rattle.std.specs.Vec.Iter.{into_iter_items}
use Rattle.broker_core.specs.State.{Stand}
use Rattle.broker_core.specs.Sound.{AllFine}
use Rattle.broker_core.specs.Edits.{HasRoom, ActedAll}
use Rattle.broker_core.proofs.broker.Broker.act_all.Given as goal

abbrev pub invariant-loop-edit : goal.invariant-loop-edit
invariant-loop-edit l =
    AllFine (into_iter_items l.edit-iterator)
    × HasRoom (into_iter_items l.edit-iterator) l.self
    × ((new : Stand) → ActedAll (into_iter_items l.edit-iterator) l.self new → ActedAll l.fn.edits.items l.fn.self new)
