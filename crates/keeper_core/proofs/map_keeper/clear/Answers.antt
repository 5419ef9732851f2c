use Rattle.std.proofs.Common.{Some}
use Rattle.keeper_core.specs.Kept.{rows_in}
use Rattle.keeper_core.proofs.map_keeper.clear.Goals as goal
use Rattle.keeper_core.proofs.Table.{clear_place}
use Rattle.std.specs.BTreeMap.{is_at}
use Rattle.std.specs.Ordering.{nat_cmp}
use Rattle.std.specs.Cmp.Lexicographic.{slice_cmp}
use Rattle.std.proofs.Common.{ap, sym, ◌∙◌}

-- src/map_keeper.rt:180:1
pub returns-in-Some-None : goal.returns-in-Some-None
returns-in-Some-None c =
    ap rows_in c.remove.ensures.entries ∙ clear_place (is_at (slice_cmp nat_cmp c.args.key.now)) c.args.table.now.entries (sym c.in-Some-None.ensures.value ∙ ap Some c.in-Some-None.field-0-is)
