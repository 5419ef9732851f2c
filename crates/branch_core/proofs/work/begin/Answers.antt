-- A place more, and those behind it are moved.
use Rattle.std.proofs.Common.{◌+◌, ◌∙◌, ℕ, length, ap, sym, subst, arith}
use Rattle.std.specs.Ordering.{nat_cmp}
use Rattle.sorted_map.specs.Map.{seen, changed}
use Rattle.branch_core.specs.State.{AllBelow, seats_of}
use Rattle.branch_core.specs.Acts.{activate, pushed}
use Rattle.branch_core.proofs.Below.{below_seen, below_changed, below_activate, below_pushed}
use Rattle.branch_core.proofs.work.begin.Goals as goal

pub returns-clause-below : goal.returns-clause-below
returns-clause-below c =
    let count = length c.args.branches.now.entries in
    let place = c.begin-place.result in
    let seats = seats_of c.args.seats.now.entries in
    subst (λ (n : ℕ). AllBelow n (seats_of c.turn_one.new.seats.entries)) (sym c.begin-place.ensures.len)
    (subst (AllBelow (count + 1)) (sym (c.turn_one.ensures ∙ ap (changed nat_cmp c.args.session (activate place)) c.turn_all.ensures))
    (below_changed (count + 1) (activate place) (below_activate (count + 1) place (omega (arith, c.begin-place.ensures.bound))) c.args.session (seen (pushed place) seats) (below_seen count (count + 1) (pushed place) (below_pushed count place) seats c.requires.below)))
