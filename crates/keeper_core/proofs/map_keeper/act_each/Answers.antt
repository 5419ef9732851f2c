use Rattle.std.proofs.Common.{◌≡◌, ◌∷◌, sym, ap, subst, ◌∙◌}
use Rattle.keeper_core.specs.Kept.{rows_in, HasRoom}
use Rattle.keeper_core.specs.Rows.{changed}
use Rattle.keeper_core.proofs.Table.{room_kept}
use Rattle.keeper_core.proofs.map_keeper.act_each.Goals as goal

pub loop-change-preserved : goal.loop-change-preserved
loop-change-preserved c = λ room.
    let was = c.loop-change.invariant room in
    let more = c.next.new.self.rest.items in
    let all : c.loop-change.change-iterator.rest.items ≡ c.in-Some.change ∷ more = c.in-Some.ensures.steps.0 in
    let has = subst (HasRoom c.loop-change.table.entries) all was.0 in (
      room_kept c.loop-change.table.entries c.act.new.table.entries (λ other place. c.act.ensures.stays other has.0 place) more has.1,
      ap (λ rows. changed rows more) (c.act.ensures.rows has.0) ∙ sym (ap (changed (rows_in c.loop-change.table.entries)) all) ∙ was.1,
    )
