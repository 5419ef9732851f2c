-- The rest decides where all do.
use Rattle.std.proofs.Common.{◌≡◌, length}
use Rattle.header_match.specs.Headers.{any_holds}
use Rattle.header_match.proofs.headers.any_holds.Given as goal

abbrev pub invariant-loop-pair : goal.invariant-loop-pair
invariant-loop-pair l = any_holds l.rest l.headers ≡ any_holds l.asked l.headers

abbrev pub decreases-loop-pair : goal.decreases-loop-pair
decreases-loop-pair l = length l.rest
