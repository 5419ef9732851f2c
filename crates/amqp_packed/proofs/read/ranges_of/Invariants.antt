-- The pairs so far, and those to come.
use Rattle.std.proofs.Common.{◌≡◌, ◌≤◌, ◌-◌, ◌/◌, [], length}
use Rattle.amqp_packed.specs.Reading.{ranges_from}
use Rattle.amqp_packed.proofs.read.ranges_of.Given as goal

abbrev pub invariant-loop : goal.invariant-loop
invariant-loop l = (ranges_from (length l.octets / 8 - l.counter) l.ranges.items l.rest ≡ ranges_from (length l.octets / 8) [] l.octets) × (length l.rest ≤ length l.octets)
