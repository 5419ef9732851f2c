-- The pairs so far.
use Rattle.std.proofs.Common.{◌≡◌, ◌++◌, take, flat_map}
use Rattle.amqp_packed.specs.Spelling.{range_octets}
use Rattle.amqp_packed.proofs.write.put_ranges.Given as goal

abbrev pub invariant-loop-range : goal.invariant-loop-range
invariant-loop-range l = l.out.items ≡ l.initial.out.items ++ flat_map range_octets (take l.range-index l.ranges)
