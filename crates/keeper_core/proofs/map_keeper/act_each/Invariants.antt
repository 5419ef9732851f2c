-- What is left to do brings what all changes bring, and there is room for it.
use Rattle.std.proofs.Common.{◌≡◌}
use Rattle.keeper_core.specs.Kept.{rows_in, HasRoom}
use Rattle.keeper_core.specs.Rows.{changed}
use Rattle.keeper_core.proofs.map_keeper.act_each.Given as goal

abbrev pub invariant-loop-change : goal.invariant-loop-change
invariant-loop-change l = HasRoom l.initial.table.entries l.fn.changes.items
    → HasRoom l.table.entries l.change-iterator.rest.items × (changed (rows_in l.table.entries) l.change-iterator.rest.items ≡ changed (rows_in l.initial.table.entries) l.fn.changes.items)
