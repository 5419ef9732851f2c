-- None of the places before this one can take what is offered.
use Rattle.std.proofs.Common.{◌≡◌, take, None}
use Rattle.credit_core.specs.Turns.{ready}
use Rattle.credit_core.proofs.subs.first_ready.Given as goal

abbrev pub invariant-loop-place : goal.invariant-loop-place
invariant-loop-place l = ready (take l.place l.places.items) l.offers ≡ None
