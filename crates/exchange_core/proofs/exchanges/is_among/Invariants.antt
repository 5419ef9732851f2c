-- Those before have other exchanges.
use Rattle.std.proofs.Common.{◌≡◌, length}
use Rattle.exchange_core.specs.Exchanges.{has_alternate}
use Rattle.exchange_core.proofs.exchanges.is_among.Given as goal

abbrev pub invariant-loop-entry : goal.invariant-loop-entry
invariant-loop-entry l = has_alternate l.exchange l.rest ≡ has_alternate l.exchange l.entries

abbrev pub decreases-loop-entry : goal.decreases-loop-entry
decreases-loop-entry l = length l.rest
