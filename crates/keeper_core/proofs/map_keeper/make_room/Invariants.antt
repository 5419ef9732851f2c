use Rattle.std.proofs.Common.{◌≡◌}
use Rattle.keeper_core.specs.Kept.{rows_in, HasRoom}
use Rattle.keeper_core.proofs.map_keeper.make_room.Given as goal
use Rattle.std.proofs.Common.{take}

abbrev pub invariant-loop-change : goal.invariant-loop-change
invariant-loop-change l = (rows_in l.table.entries ≡ rows_in l.initial.table.entries) × HasRoom l.table.entries (take l.change-index l.changes)
