-- As many branches.
use Rattle.std.proofs.Common.{◌∙◌, ℕ, length, ap, sym, subst}
use Rattle.sorted_map.proofs.Showing.{length_changed_at}
use Rattle.branch_core.specs.Held.{emptied}
use Rattle.branch_core.specs.State.{AllBelow, branches_of, seats_of}
use Rattle.branch_core.proofs.Below.{same_count}
use Rattle.branch_core.proofs.branches.Branches.undo.Goals as goal

pub invariant_of-self : goal.invariant_of-self
invariant_of-self c =
    subst (λ (n : ℕ). AllBelow n (seats_of c.self.inside.seats.entries)) (sym (same_count c.self.inside.branches.entries c.take.new.branches.entries (ap length c.take.ensures.branches ∙ length_changed_at c.in-Some.place emptied (branches_of c.self.inside.branches.entries))))
    c.self.invariant
