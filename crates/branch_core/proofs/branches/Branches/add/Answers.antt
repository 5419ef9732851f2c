-- As many branches, and no session is active elsewhere.
use Rattle.std.proofs.Common.{◌∙◌, ℕ, length, ap, sym, subst}
use Rattle.sorted_map.proofs.Showing.{length_changed_at}
use Rattle.branch_core.specs.Held.{given}
use Rattle.branch_core.specs.State.{AllBelow, branches_of, seats_of}
use Rattle.branch_core.specs.Acts.{tx_given}
use Rattle.branch_core.proofs.Below.{below_changed, same_count}
use Rattle.branch_core.proofs.branches.Branches.add.Goals as goal

pub invariant_of-self : goal.invariant_of-self
invariant_of-self c = subst (AllBelow (length c.self.inside.branches.entries)) (sym c.give.ensures.seats) (below_changed (length c.self.inside.branches.entries) (tx_given c.args.intent) (λ t b. b) c.args.session (seats_of c.self.inside.seats.entries) c.self.invariant)

pub invariant_of-self-in-Branch : goal.invariant_of-self-in-Branch
invariant_of-self-in-Branch c =
    subst (λ (n : ℕ). AllBelow n (seats_of c.self.inside.seats.entries)) (sym (same_count c.self.inside.branches.entries c.give-in-Branch.new.branches.entries (ap length c.give-in-Branch.ensures.branches ∙ length_changed_at c.in-Branch.place (given c.args.intent) (branches_of c.self.inside.branches.entries))))
    c.self.invariant
