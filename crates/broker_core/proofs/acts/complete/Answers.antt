-- The session is changed where it stands.
use Rattle.std.proofs.Common.{ap, ℕ}
use Rattle.std.specs.Ordering.{nat_cmp}
use Rattle.broker_core.specs.Edits.{as_completed}
use Rattle.broker_core.proofs.Writing.{written}
use Rattle.broker_core.proofs.acts.complete.Goals as goal

pub returns-in-Some : goal.returns-in-Some
returns-in-Some c =
    let old = c.value_mut-state.result.now in
    written nat_cmp c.args.session (as_completed c.args.count) c.args.sessions.now.entries c.in-Some.index old (record old { uncompleted = c.saturating_sub-state.result }) c.in-Some.ensures.index c.value_mut-state.ensures.value c.in-Some.ensures.some.1 (ap (λ (n : ℕ). record old { uncompleted = n }) c.saturating_sub-state.ensures)
