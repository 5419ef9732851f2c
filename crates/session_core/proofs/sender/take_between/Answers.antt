-- The rest rises as before.
use Rattle.std.proofs.Common.{sym, subst}
use Rattle.session_core.specs.Sent.{Rise}
use Rattle.session_core.proofs.Sending.{rise_outside}
use Rattle.session_core.proofs.sender.take_between.Goals as goal

pub returns-clause-rise : goal.returns-clause-rise
returns-clause-rise c = λ limit r.
    subst (Rise 0 limit) (sym c.cut.ensures.items) (rise_outside c.args.numbers.now.items 0 limit c.between-start.result.0 c.between-start.result.1 c.between-start.ensures.order r)
