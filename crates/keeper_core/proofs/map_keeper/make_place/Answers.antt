use Rattle.std.proofs.Common.{None}
use Rattle.keeper_core.specs.Kept.{rows_in}
use Rattle.keeper_core.proofs.map_keeper.make_place.Goals as goal
use Rattle.keeper_core.proofs.Table.{make_missing, set_stays}
use Rattle.std.proofs.Common.{ap, sym, ◌∙◌}

-- src/map_keeper.rt:120:1
pub returns-in_ok-insert-clause-rows : goal.returns-in_ok-insert-clause-rows
returns-in_ok-insert-clause-rows c =
    ap rows_in c.in_ok-insert.ensures.entries
    ∙ make_missing c.args.table.now.entries c.in-Put.row.key c.in_ok-copied.field-0 c.in_ok-copied.ensures (sym c.if-not-contains_key.ensures)

-- src/map_keeper.rt:120:1
pub returns-in_ok-insert-clause-stays : goal.returns-in_ok-insert-clause-stays
returns-in_ok-insert-clause-stays c =
    set_stays c.args.table.now.entries c.insert.new.self.entries c.in_ok-copied.field-0 None c.in_ok-insert.ensures.updates.0
