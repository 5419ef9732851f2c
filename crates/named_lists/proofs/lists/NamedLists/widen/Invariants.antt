-- The lists up to here are free, and for the others there is room.
use Rattle.std.proofs.Common.{◌≡◌, ◌+◌, ◌-◌, ◌≤◌, length}
use Rattle.std.specs.Vec.{vec_capacity}
use Rattle.named_lists.specs.Lists.{Parted, lists_of}
use Rattle.named_lists.proofs.lists.NamedLists.widen.Given as goal

abbrev pub invariant-loop-list : goal.invariant-loop-list
invariant-loop-list g l =
    (l.self-inside.names ≡ l.initial.self-inside.names) × (l.self-inside.count ≡ l.initial.self-inside.count)
    × (length l.self-inside.free.items + l.initial.self-inside.count ≡ length l.initial.self-inside.free.items + l.list) × (l.initial.self-inside.count ≤ l.list) × (l.list ≤ l.lists)
    × Parted (lists_of l.self-inside.names.entries) l.self-inside.free.items l.list
    × (length l.self-inside.names.entries + length l.self-inside.free.items + (l.lists - l.list) ≤ vec_capacity l.self-inside.free)
    × (length l.self-inside.free.items + (l.lists - l.list) ≤ l.self-inside.names.room)
