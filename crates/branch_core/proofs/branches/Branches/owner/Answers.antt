-- Each session is active at a place where a branch is.
use Rattle.std.proofs.Common.{◌<◌, ◌∙◌, length, sym, subst}
use Rattle.sorted_map.proofs.Showing.{seen_length}
use Rattle.branch_core.specs.Held.{held}
use Rattle.branch_core.specs.State.{Branched, seats_of}
use Rattle.branch_core.proofs.Below.{found_below}
use Rattle.branch_core.proofs.branches.Branches.owner.Goals as goal

pub returns-in-Some-clause-place : goal.returns-in-Some-clause-place
returns-in-Some-clause-place c =
    subst (λ (v : Branched). c.in-Some.place < length v.state.branches) c.self.view_is
    (subst (λ n. c.in-Some.place < n) (sym (seen_length held c.self.inside.branches.entries)) (found_below (length c.self.inside.branches.entries) c.args.session c.in-Some.place (seats_of c.self.inside.seats.entries) c.self.invariant (sym c.active.ensures ∙ c.in-Some.is)))
