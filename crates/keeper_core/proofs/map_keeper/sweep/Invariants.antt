use Rattle.std.proofs.Common.{◌≡◌}
use Rattle.keeper_core.specs.Kept.{rows_in}
use Rattle.keeper_core.proofs.map_keeper.sweep.Given as goal

abbrev pub invariant-loop-change : goal.invariant-loop-change
invariant-loop-change l = rows_in l.table.entries ≡ rows_in l.initial.table.entries
