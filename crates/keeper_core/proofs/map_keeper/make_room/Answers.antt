use Rattle.std.proofs.Common.{◌≡◌, ◌+◌, ◌++◌, ◌∷◌, [], take, subst, sym, ap, ◌∙◌, arith}
use Rattle.std.proofs.lemmas.List.{take_more}
use Rattle.keeper_core.specs.Kept.{HasRoom}
use Rattle.keeper_core.proofs.Table.{room_kept, room_more}
use Rattle.keeper_core.proofs.map_keeper.make_room.Goals as goal

pub loop-change-preserved : goal.loop-change-preserved
loop-change-preserved c =
    let changes = c.args.changes.now in
    let i = c.loop-change.change-index in
    let taken : take (i + 1) changes ≡ take i changes ++ c.change-item.result ∷ [] =
    take_more changes i c.change-item.result (omega (arith, c.loop-change-test.true)) ∙ ap (λ x. take i changes ++ x ∷ []) (sym c.change-item.is) in
    let kept = room_kept c.loop-change.table.entries c.make_place.new.table.entries c.make_place.ensures.stays (take i changes) c.loop-change.invariant.1 in (
      c.in_ok-make_place.ensures.rows ∙ c.loop-change.invariant.0,
      subst (HasRoom c.make_place.new.table.entries) (sym taken)
          (room_more c.make_place.new.table.entries (take i changes) c.change-item.result kept c.in_ok-make_place.ensures.room),
    )
