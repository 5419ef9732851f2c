-- As many branches, and a session less.
use Rattle.std.proofs.Common.{◌∙◌, ℕ, length, ap, sym, subst}
use Rattle.std.specs.Ordering.{nat_cmp}
use Rattle.sorted_map.proofs.Showing.{seen_length, seen_out}
use Rattle.branch_core.specs.State.{Branched, seated, AllBelow, branches_of, seats_of}
use Rattle.branch_core.specs.Acts.{left_all}
use Rattle.branch_core.proofs.Below.{below_out, same_count, state_is}
use Rattle.branch_core.proofs.branches.Branches.leave.Goals as goal

pub invariant_of-self : goal.invariant_of-self
invariant_of-self c =
    subst (λ (n : ℕ). AllBelow n (seats_of c.take.new.self.entries)) (sym (same_count c.self.inside.branches.entries c.change_all.new.branches.entries (ap length c.change_all.ensures ∙ seen_length _ (branches_of c.self.inside.branches.entries))))
    (subst (AllBelow (length c.self.inside.branches.entries)) (sym (ap seats_of c.take.ensures.entries ∙ seen_out seated nat_cmp c.args.session c.self.inside.seats.entries)) (below_out (length c.self.inside.branches.entries) c.args.session (seats_of c.self.inside.seats.entries) c.self.invariant))

pub returns : goal.returns
returns c = state_is c.change_all.ensures (ap seats_of c.take.ensures.entries ∙ seen_out seated nat_cmp c.args.session c.self.inside.seats.entries) ∙ ap (λ (v : Branched). left_all c.args.session v.state) c.self.view_is
