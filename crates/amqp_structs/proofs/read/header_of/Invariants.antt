-- The structs so far, and those to come.
use Rattle.std.proofs.Common.{◌≡◌, ◌≤◌, ◌-◌, length}
use Rattle.amqp_structs.specs.Header.{structs_at, header_in}
use Rattle.amqp_structs.proofs.read.header_of.Given as goal

abbrev pub invariant-loop : goal.invariant-loop
invariant-loop l = (structs_at (length l.octets - l.counter) l.header l.rest ≡ header_in l.octets) × (length l.rest ≤ length l.octets)
