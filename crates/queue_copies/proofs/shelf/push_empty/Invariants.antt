-- So many empty ones were added, and for the others there is room.
use Rattle.std.proofs.Common.{◌≡◌, ◌+◌, ◌-◌, ◌≤◌, ◌++◌, replicate}
use Rattle.std.specs.Vec.{vec_len, vec_capacity}
use Rattle.queue_copies.specs.Shelves.{empty_shelf}
use Rattle.queue_copies.proofs.shelf.push_empty.Given as goal

abbrev pub invariant-loop : goal.invariant-loop
invariant-loop l = (l.counter ≤ l.lists) × (l.shelves.items ≡ l.fn.shelves.items ++ replicate l.counter empty_shelf) × (vec_len l.shelves + (l.lists - l.counter) ≤ vec_capacity l.shelves)
