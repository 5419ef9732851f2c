-- Those below the index are changed.
use Rattle.std.proofs.Common.{◌≡◌, length}
use Rattle.sorted_map.proofs.Showing.{changed_below}
use Rattle.branch_core.specs.State.{seats_of}
use Rattle.branch_core.specs.Acts.{turned}
use Rattle.branch_core.proofs.seats.turn_all.Given as goal

abbrev pub invariant-loop-index : goal.invariant-loop-index
invariant-loop-index l = (l.index-end ≡ length l.fn.seats.entries) × (seats_of l.seats.entries ≡ changed_below l.index (turned l.turn) (seats_of l.fn.seats.entries))
