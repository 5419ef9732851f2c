-- The newest change is taken back.
use Rattle.std.proofs.Common.{◌∙◌, ap, sym, subst, ◌∷◌, [], ◌++◌}
use Rattle.amqp_frames.specs.Touched.{lane_in, undone, InReach}
use Rattle.amqp_frames.proofs.Touching.{newest_back, reach_front, reach_last}
use Rattle.amqp_frames.proofs.touched.undo.Goals as goal

pub loop-touch-preserved : goal.loop-touch-preserved
loop-touch-preserved c =
    let lanes = c.loop-touch.lanes.items in
    let log = c.pop.new.self.items in
    let reach : InReach (log ++ c.in-Some.touch ∷ []) lanes = subst (λ l. InReach l lanes) c.in-Some.ensures.items c.loop-touch.invariant.0 in (
      reach_front log c.in-Some.touch lanes c.restore.new.self reach,
      λ i. newest_back log c.in-Some.touch lanes c.restore.new.self c.index_mut.result.now (reach_last log c.in-Some.touch lanes reach) c.index_mut.ensures.value c.restore.ensures i
          ∙ ap (λ l. undone l (lane_in lanes) i) (sym c.in-Some.ensures.items) ∙ c.loop-touch.invariant.1 i,
    )
