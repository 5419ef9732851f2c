-- As many branches, and a session active at one more.
use Rattle.std.proofs.Common.{◌∙◌, ℕ, length, ap, sym, subst}
use Rattle.sorted_map.proofs.Showing.{length_changed}
use Rattle.branch_core.specs.Xids.{xid_order}
use Rattle.branch_core.specs.Held.{joined}
use Rattle.branch_core.specs.State.{AllBelow, branches_of, seats_of}
use Rattle.branch_core.specs.Acts.{activate}
use Rattle.branch_core.proofs.Below.{below_changed, below_activate, same_count}
use Rattle.branch_core.proofs.work.join.Goals as goal

pub returns-clause-below : goal.returns-clause-below
returns-clause-below c =
    let place = c.place_of-place.result in
    subst (λ (n : ℕ). AllBelow n (seats_of c.turn_one.new.seats.entries)) (sym (same_count c.args.branches.now.entries c.join.new.branches.entries (ap length c.join.ensures ∙ length_changed xid_order c.args.xid.now (joined c.args.session) (branches_of c.args.branches.now.entries))))
    (subst (AllBelow (length c.args.branches.now.entries)) (sym c.turn_one.ensures) (below_changed (length c.args.branches.now.entries) (activate place) (below_activate (length c.args.branches.now.entries) place c.place_of-place.ensures.bound) c.args.session (seats_of c.args.seats.now.entries) c.requires.below))
