-- The units so far.
use Rattle.std.proofs.Common.{◌≡◌, take}
use Rattle.amqp_terms.proofs.unit.Units.copied.Given as goal

abbrev pub invariant-loop-unit : goal.invariant-loop-unit
invariant-loop-unit l = l.copy ≡ take l.unit-index l.self
