-- The rest decides where all do.
use Rattle.std.proofs.Common.{◌≡◌, length}
use Rattle.header_match.specs.Headers.{all_hold}
use Rattle.header_match.proofs.headers.all_hold.Given as goal

abbrev pub invariant-loop-pair : goal.invariant-loop-pair
invariant-loop-pair l = all_hold l.rest l.headers ≡ all_hold l.asked l.headers

abbrev pub decreases-loop-pair : goal.decreases-loop-pair
decreases-loop-pair l = length l.rest
