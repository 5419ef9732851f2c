-- The session is active where the branch is.
use Rattle.std.proofs.Common.{length, sym, subst}
use Rattle.branch_core.specs.State.{AllBelow, seats_of}
use Rattle.branch_core.specs.Acts.{activate}
use Rattle.branch_core.proofs.Below.{below_changed, below_activate}
use Rattle.branch_core.proofs.branches.Branches.start_resume.Goals as goal

pub invariant_of-self : goal.invariant_of-self
invariant_of-self c = subst (AllBelow (length c.self.inside.branches.entries)) (sym c.turn_one.ensures) (below_changed (length c.self.inside.branches.entries) (activate c.place_of-place.result) (below_activate (length c.self.inside.branches.entries) c.place_of-place.result c.place_of-place.ensures.bound) c.args.session (seats_of c.self.inside.seats.entries) c.self.invariant)
