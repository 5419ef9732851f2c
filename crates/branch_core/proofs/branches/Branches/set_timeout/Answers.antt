-- As many branches.
use Rattle.std.proofs.Common.{◌∙◌, ℕ, length, ap, sym, subst}
use Rattle.sorted_map.proofs.Showing.{length_changed}
use Rattle.branch_core.specs.Xids.{xid_order}
use Rattle.branch_core.specs.State.{AllBelow, branches_of, seats_of}
use Rattle.branch_core.proofs.Below.{same_count}
use Rattle.branch_core.proofs.branches.Branches.set_timeout.Goals as goal

pub invariant_of-self : goal.invariant_of-self
invariant_of-self c =
    subst (λ (n : ℕ). AllBelow n (seats_of c.self.inside.seats.entries)) (sym (same_count c.self.inside.branches.entries c.change_one.new.branches.entries (ap length c.change_one.ensures.branches ∙ length_changed xid_order c.args.xid.now _ (branches_of c.self.inside.branches.entries))))
    c.self.invariant
