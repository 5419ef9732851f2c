use Rattle.std.proofs.Common.{◌≡◌}
use Rattle.keeper_core.proofs.map_keeper.copies.Given as goal
use Rattle.std.proofs.Common.{take}

abbrev pub invariant-loop-change : goal.invariant-loop-change
invariant-loop-change l = l.copies.items ≡ take l.change-index l.changes
