-- A place less, and those behind it are moved.
use Rattle.std.proofs.Common.{length, sym, subst}
use Rattle.branch_core.specs.State.{AllBelow, seats_of}
use Rattle.branch_core.specs.Acts.{pulled}
use Rattle.branch_core.proofs.Below.{below_seen, below_pulled}
use Rattle.branch_core.proofs.work.finish.Goals as goal

pub returns-clause-below : goal.returns-clause-below
returns-clause-below c =
    let place = c.finish-place.result.0 in
    subst (AllBelow (length c.finish-place.new.branches.entries)) (sym c.turn_all.ensures)
    (below_seen (length c.args.branches.now.entries) (length c.finish-place.new.branches.entries) (pulled place) (below_pulled (length c.args.branches.now.entries) (length c.finish-place.new.branches.entries) place c.finish-place.ensures.len c.finish-place.ensures.bound) (seats_of c.args.seats.now.entries) c.requires.below)
