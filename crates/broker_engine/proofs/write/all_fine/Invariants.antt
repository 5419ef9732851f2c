-- The rest decides.
use Rattle.std.proofs.Common.{◌≡◌, length}
use Rattle.std.specs.List.{list_all}
use Rattle.amqp_packed.specs.Spelling.{range_fine}
use Rattle.broker_engine.proofs.write.all_fine.Given as goal

abbrev pub invariant-loop-first : goal.invariant-loop-first
invariant-loop-first l = list_all range_fine l.rest ≡ list_all range_fine l.ranges

abbrev pub decreases-loop-first : goal.decreases-loop-first
decreases-loop-first l = length l.rest
