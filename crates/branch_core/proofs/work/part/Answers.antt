-- As many branches, and a session active at one less.
use Rattle.std.proofs.Common.{◌∙◌, ℕ, length, ap, sym, subst}
use Rattle.sorted_map.proofs.Showing.{length_changed}
use Rattle.branch_core.specs.Xids.{xid_order}
use Rattle.branch_core.specs.State.{AllBelow, branches_of, seats_of}
use Rattle.branch_core.specs.Acts.{left}
use Rattle.branch_core.proofs.Below.{below_changed, below_left, same_count}
use Rattle.branch_core.proofs.work.part.Goals as goal

pub returns-in-Suspend-clause-below : goal.returns-in-Suspend-clause-below
returns-in-Suspend-clause-below c =
    let place = c.place_of-place.result in
    (subst (AllBelow (length c.args.branches.now.entries)) (sym c.turn_one.ensures) (below_changed (length c.args.branches.now.entries) (left place) (below_left (length c.args.branches.now.entries) place) c.args.session (seats_of c.args.seats.now.entries) c.requires.below))

pub returns-in-Success-clause-below : goal.returns-in-Success-clause-below
returns-in-Success-clause-below c =
    let place = c.place_of-place.result in
    subst (λ (n : ℕ). AllBelow n (seats_of c.turn_one.new.seats.entries)) (sym (same_count c.args.branches.now.entries c.change_one.new.branches.entries (ap length c.change_one.ensures.branches ∙ length_changed xid_order c.args.xid.now _ (branches_of c.args.branches.now.entries))))
    (subst (AllBelow (length c.args.branches.now.entries)) (sym c.turn_one.ensures) (below_changed (length c.args.branches.now.entries) (left place) (below_left (length c.args.branches.now.entries) place) c.args.session (seats_of c.args.seats.now.entries) c.requires.below))

pub returns-in-Fail-clause-below : goal.returns-in-Fail-clause-below
returns-in-Fail-clause-below c =
    let place = c.place_of-place.result in
    subst (λ (n : ℕ). AllBelow n (seats_of c.turn_one.new.seats.entries)) (sym (same_count c.args.branches.now.entries c.change_one-in-Fail.new.branches.entries (ap length c.change_one-in-Fail.ensures.branches ∙ length_changed xid_order c.args.xid.now _ (branches_of c.args.branches.now.entries))))
    (subst (AllBelow (length c.args.branches.now.entries)) (sym c.turn_one.ensures) (below_changed (length c.args.branches.now.entries) (left place) (below_left (length c.args.branches.now.entries) place) c.args.session (seats_of c.args.seats.now.entries) c.requires.below))
