-- The rest has the key where all have it.
use Rattle.std.proofs.Common.{◌≡◌, length}
use Rattle.header_match.specs.Headers.{holds}
use Rattle.header_match.proofs.headers.holds.Given as goal

abbrev pub invariant-loop-header : goal.invariant-loop-header
invariant-loop-header l = holds l.rest l.pair ≡ holds l.headers l.pair

abbrev pub decreases-loop-header : goal.decreases-loop-header
decreases-loop-header l = length l.rest
