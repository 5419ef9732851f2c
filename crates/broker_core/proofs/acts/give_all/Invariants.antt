-- What is left to give brings what all brings.
use Rattle.std.proofs.Common.{◌≡◌, length}
use Rattle.broker_core.specs.Edits.{given_all}
use Rattle.broker_core.proofs.acts.give_all.Given as goal

abbrev pub invariant-loop-first : goal.invariant-loop-first
invariant-loop-first l = given_all l.rest l.sessions.entries ≡ given_all l.given l.fn.sessions.entries

abbrev pub decreases-loop-first : goal.decreases-loop-first
decreases-loop-first l = length l.rest
