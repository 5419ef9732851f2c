-- So much room was made, and there is place for the others.
use Rattle.std.proofs.Common.{◌≡◌, ◌+◌, ◌-◌, ◌≤◌, ℕ, length}
use Rattle.std.specs.Vec.{vec_len, vec_capacity}
use Rattle.queue_copies.proofs.copies.fill.Given as goal

abbrev pub invariant-loop : goal.invariant-loop
invariant-loop l =
    (length l.slots.items ≡ l.counter) × (length l.fn.slots.items ≤ l.counter) × ((bound : ℕ) → l.most ≤ bound → length l.fn.slots.items ≤ bound → l.counter ≤ bound)
    × (vec_len l.slots + (l.most - l.counter) ≤ vec_capacity l.slots)
