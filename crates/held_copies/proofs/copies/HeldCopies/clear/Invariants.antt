-- What the list is to become stays, and it gets shorter.
use Rattle.std.proofs.Common.{◌≡◌, ◌<◌, [], length, slice_set}
use Rattle.queue_copies.specs.Copied.{copies_at}
use Rattle.held_copies.proofs.copies.HeldCopies.clear.Given as goal

abbrev pub invariant-loop-number : goal.invariant-loop-number
invariant-loop-number g l =
    (slice_set l.self.lists l.list [] ≡ slice_set l.fn.self.lists l.list []) × (l.list < length l.self.lists) × (l.self.spare ≡ l.fn.self.spare) × (l.self.sessions ≡ l.fn.self.sessions)

abbrev pub decreases-loop-number : goal.decreases-loop-number
decreases-loop-number g l = length (copies_at l.self.lists l.list)
