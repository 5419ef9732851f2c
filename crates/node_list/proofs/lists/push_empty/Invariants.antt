-- So many empty ends were added, and for the others there is room.
use Rattle.std.proofs.Common.{◌≡◌, ◌+◌, ◌-◌, ◌≤◌, ◌++◌, replicate}
use Rattle.std.specs.Vec.{vec_len, vec_capacity}
use Rattle.node_list.specs.Links.{no_ends}
use Rattle.node_list.proofs.lists.push_empty.Given as goal

abbrev pub invariant-loop : goal.invariant-loop
invariant-loop l = (l.counter ≤ l.lists) × (l.ends.items ≡ l.fn.ends.items ++ replicate l.counter no_ends) × (vec_len l.ends + (l.lists - l.counter) ≤ vec_capacity l.ends)
