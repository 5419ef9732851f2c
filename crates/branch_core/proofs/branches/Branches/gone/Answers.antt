-- As many branches, and no session is active elsewhere.
use Rattle.std.proofs.Common.{◌∙◌, ℕ, length, ap, sym, subst}
use Rattle.sorted_map.proofs.Showing.{seen_length}
use Rattle.branch_core.specs.State.{AllBelow, branches_of, seats_of}
use Rattle.branch_core.specs.Acts.{seat_without}
use Rattle.branch_core.proofs.Below.{below_seen, same_count}
use Rattle.branch_core.proofs.branches.Branches.gone.Goals as goal

pub invariant_of-self : goal.invariant_of-self
invariant_of-self c =
    subst (λ (n : ℕ). AllBelow n (seats_of c.turn_all.new.seats.entries)) (sym (same_count c.self.inside.branches.entries c.change_all.new.branches.entries (ap length c.change_all.ensures ∙ seen_length _ (branches_of c.self.inside.branches.entries))))
    (subst (AllBelow (length c.self.inside.branches.entries)) (sym c.turn_all.ensures) (below_seen (length c.self.inside.branches.entries) (length c.self.inside.branches.entries) (seat_without c.args.queue.now c.args.number) (λ t b. b) (seats_of c.self.inside.seats.entries) c.self.invariant))
