-- What the list is to become stays, and what is available gets less.
use Rattle.std.proofs.Common.{◌≡◌, ◌<◌, length, slice_set}
use Rattle.queue_copies.specs.Copied.{copies_at, available, held_only}
use Rattle.queue_copies.proofs.copies.Copies.purge.Given as goal

abbrev pub invariant-loop-number : goal.invariant-loop-number
invariant-loop-number g l =
    (slice_set l.self.lists l.list (held_only (copies_at l.self.lists l.list)) ≡ slice_set l.fn.self.lists l.list (held_only (copies_at l.fn.self.lists l.list)))
    × (l.list < length l.self.lists) × (l.self.spare ≡ l.fn.self.spare)

abbrev pub decreases-loop-number : goal.decreases-loop-number
decreases-loop-number g l = length (available (copies_at l.self.lists l.list))
