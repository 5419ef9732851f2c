-- The session is changed where it stands.
use Rattle.std.proofs.Common.{refl, true}
use Rattle.std.specs.Ordering.{nat_cmp}
use Rattle.broker_core.specs.Edits.{as_failed}
use Rattle.broker_core.proofs.Writing.{written}
use Rattle.broker_core.proofs.acts.fail.Goals as goal

pub returns-in-Some : goal.returns-in-Some
returns-in-Some c =
    let old = c.value_mut.result.now in
    written nat_cmp c.args.session as_failed c.args.sessions.now.entries c.in-Some.index old (record old { failed = true }) c.in-Some.ensures.index c.value_mut.ensures.value c.in-Some.ensures.some.1 refl
