-- No session is active elsewhere.
use Rattle.std.proofs.Common.{length, sym, subst}
use Rattle.branch_core.specs.State.{AllBelow, seats_of}
use Rattle.branch_core.proofs.Below.{below_selecting}
use Rattle.branch_core.proofs.branches.Branches.select.Goals as goal

pub invariant_of-self-2 : goal.invariant_of-self-2
invariant_of-self-2 c = subst (AllBelow (length c.self.inside.branches.entries)) (sym c.select.ensures) (below_selecting (length c.self.inside.branches.entries) c.args.session c.args.dtx _ (seats_of c.reserve.new.self.entries) (subst (λ es. AllBelow (length c.self.inside.branches.entries) (seats_of es)) (sym c.reserve.ensures.entries) c.self.invariant))
