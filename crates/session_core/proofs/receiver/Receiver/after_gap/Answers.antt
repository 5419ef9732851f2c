-- The search ends at the least number that neither came nor is named.
use Rattle.std.proofs.Common.{◌≡◌, ◌∷◌, ◌||◌, sym, subst, List}
use Rattle.serial_ranges.specs.Runs.{names}
use Rattle.amqp_values.specs.declared.value.Range.{Range}
use Rattle.history_model.specs.Life.{Gap, named, next}
use Rattle.session_core.specs.Received.{Received, Receives, IsUnnamed}
use Rattle.session_core.proofs.Receiving.{next_at, next_gap}
use Rattle.session_core.proofs.receiver.Receiver.after_gap.Goals as goal

pub returns : goal.returns
returns c = λ h s.
    let ranges = c.args.ranges.now in
    let inside = c.self.inside in
    let e = subst (λ (rs : List Range). IsUnnamed (λ n. names (named inside.next rs) n || names inside.ahead n) inside.next c.least_unnamed.result) c.as_slice.ensures c.least_unnamed.ensures in
    subst (λ (r : Received). c.least_unnamed.result ≡ next (Gap (named r.next ranges) ∷ h)) c.self.view_is
    (next_at (Gap (named inside.next ranges) ∷ h) c.least_unnamed.result
    (next_gap (record { next = inside.next; point = inside.point; ahead = inside.ahead }) h (named inside.next ranges) c.least_unnamed.result (subst (λ r. Receives r h) (sym c.self.view_is) s) e))
