-- No octet 00 came yet.
use Rattle.std.proofs.Common.{◌≡◌, length}
use Rattle.conn_core.specs.Mechanism.{after_zero}
use Rattle.conn_core.proofs.mechanism.after_zero.Given as goal

abbrev pub invariant-loop-first : goal.invariant-loop-first
invariant-loop-first l = after_zero l.rest ≡ after_zero l.fn.octets

abbrev pub decreases-loop-first : goal.decreases-loop-first
decreases-loop-first l = length l.rest
