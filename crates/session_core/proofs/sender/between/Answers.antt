-- Between the two places.
use Rattle.std.proofs.Common.{sym, subst}
use Rattle.session_core.specs.Sent.{IsBetween}
use Rattle.session_core.proofs.Sending.{between_is}
use Rattle.session_core.proofs.sender.between.Goals as goal

pub returns : goal.returns
returns c = subst (IsBetween c.args.numbers.now.items c.args.lower c.args.upper c.below-start.result) (sym c.max.ensures) (between_is c.args.numbers.now.items c.args.lower c.args.upper c.below-start.result c.below-end.result c.below-start.ensures c.below-end.ensures)
