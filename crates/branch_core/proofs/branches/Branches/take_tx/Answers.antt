-- No session is active elsewhere.
use Rattle.std.proofs.Common.{length, sym, subst}
use Rattle.branch_core.specs.State.{AllBelow, seats_of}
use Rattle.branch_core.specs.Acts.{tx_emptied}
use Rattle.branch_core.proofs.Below.{below_changed}
use Rattle.branch_core.proofs.branches.Branches.take_tx.Goals as goal

pub invariant_of-self : goal.invariant_of-self
invariant_of-self c = subst (AllBelow (length c.self.inside.branches.entries)) (sym c.take.ensures.seats) (below_changed (length c.self.inside.branches.entries) tx_emptied (λ t b. b) c.args.session (seats_of c.self.inside.seats.entries) c.self.invariant)
