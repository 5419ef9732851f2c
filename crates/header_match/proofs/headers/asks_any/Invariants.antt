-- The rest decides where all do.
use Rattle.std.proofs.Common.{◌≡◌, length}
use Rattle.header_match.specs.Headers.{asks_any}
use Rattle.header_match.proofs.headers.asks_any.Given as goal

abbrev pub invariant-loop-pair : goal.invariant-loop-pair
invariant-loop-pair l = asks_any l.rest ≡ asks_any l.asked

abbrev pub decreases-loop-pair : goal.decreases-loop-pair
decreases-loop-pair l = length l.rest
