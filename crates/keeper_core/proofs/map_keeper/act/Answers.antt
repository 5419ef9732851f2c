use Rattle.std.proofs.Common.{◌≡◌, Some, None}
use Rattle.keeper_core.specs.Kept.{rows_in, HasPlace}
use Rattle.keeper_core.specs.Rows.{change_by}
use Rattle.keeper_core.proofs.map_keeper.act.Goals as goal
use Rattle.std.proofs.Common.{subst, sym}
use Rattle.keeper_core.proofs.Table.{put_done, put_stays}
use Rattle.std.proofs.Common.{ap, ◌∙◌, is_some}
use Rattle.keeper_core.proofs.Table.{drop_place, set_stays, without_absent}

-- src/map_keeper.rt:156:1
pub returns-in-Put-clause-rows : goal.returns-in-Put-clause-rows
returns-in-Put-clause-rows c =
    subst (λ change. HasPlace c.args.table.now.entries change → rows_in c.insert.new.self.entries ≡ change_by (rows_in c.args.table.now.entries) change) (sym c.in-Put.is)
    (put_done c.insert.result c.args.table.now.entries c.insert.new.self.entries c.in-Put.row.key c.in-Put.row.content c.insert.ensures.was_ordered c.insert.ensures.entries c.insert.ensures.absent)

-- src/map_keeper.rt:156:1
pub returns-in-Put-clause-stays : goal.returns-in-Put-clause-stays
returns-in-Put-clause-stays c = λ other place.
    put_stays c.insert.result c.args.table.now.entries c.insert.new.self.entries c.in-Put.row.key (Some c.in-Put.row.content) (λ u. u.0) c.insert.ensures.updates
    c.insert.ensures.absent (subst (HasPlace c.args.table.now.entries) c.in-Put.is place) other

-- src/map_keeper.rt:156:1
pub returns-in-Some-clause-rows : goal.returns-in-Some-clause-rows
returns-in-Some-clause-rows c =
    subst (λ change. HasPlace c.args.table.now.entries change → rows_in (c.get_mut.follows.lender None).entries ≡ change_by (rows_in c.args.table.now.entries) change) (sym c.in-Drop.is)
    (λ place. ap rows_in (c.get_mut.follows.holds None).0 ∙ drop_place c.args.table.now.entries c.in-Drop.key c.get_mut.ensures.ordered)

-- src/map_keeper.rt:156:1
pub returns-in-Some-clause-stays : goal.returns-in-Some-clause-stays
returns-in-Some-clause-stays c = λ other place.
    set_stays c.args.table.now.entries (c.get_mut.follows.lender None).entries c.in-Drop.key None ((c.get_mut.follows.holds None).3 (ap is_some (sym c.in-Some.ensures.value))).0 other

-- src/map_keeper.rt:153:1
pub returns-clause-rows : goal.returns-clause-rows
returns-clause-rows c =
    subst (λ change. HasPlace c.args.table.now.entries change → rows_in c.get_mut.follows.lender-at-none.entries ≡ change_by (rows_in c.args.table.now.entries) change) (sym c.in-Drop.is)
    (λ place.
    let same : c.args.table.now.entries ≡ c.get_mut.follows.lender-at-none.entries = cc c.get_mut.follows.holds-at-none in
    ap rows_in (sym same) ∙ sym (without_absent c.args.table.now.entries c.in-Drop.key (sym c.in_default.ensures.value)))
