use Rattle.std.proofs.Common.{◌≡◌, ◌++◌}
use Rattle.keeper_core.specs.Kept.{rows_in}
use Rattle.keeper_core.proofs.map_keeper.rows_of.Given as goal

abbrev pub invariant-loop-key : goal.invariant-loop-key
invariant-loop-key l = l.rows.items ++ rows_in l.key-iterator ≡ rows_in l.table.entries
