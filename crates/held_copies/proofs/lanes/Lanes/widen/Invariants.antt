-- The lists up to here were taken in, and for the others there is room.
use Rattle.std.proofs.Common.{◌≡◌, ◌+◌, ◌-◌, ◌≤◌, nat_eq, length}
use Rattle.std.specs.Vec.{vec_capacity}
use Rattle.indexmap.specs.IndexMap.{get, index_map_len}
use Rattle.held_copies.specs.Lanes.{Apart}
use Rattle.held_copies.proofs.lanes.Lanes.widen.Given as goal

abbrev pub invariant-loop-list : goal.invariant-loop-list
invariant-loop-list l =
    (l.self-inside.of ≡ l.initial.self-inside.of) × (l.self-inside.ready ≡ l.initial.self-inside.ready) × (l.self-inside.count ≡ l.initial.self-inside.count)
    × (length l.self-inside.free.items + l.initial.self-inside.count ≡ length l.initial.self-inside.free.items + l.list) × (l.initial.self-inside.count ≤ l.list) × (l.list ≤ l.lists)
    × Apart (get nat_eq l.self-inside.of) l.self-inside.free.items l.list × (index_map_len l.self-inside.of + length l.self-inside.free.items + (l.lists - l.list) ≤ vec_capacity l.self-inside.free)
