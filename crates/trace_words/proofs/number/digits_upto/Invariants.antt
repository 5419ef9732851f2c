-- The digits so far spell the number, and the rest follows.
use Rattle.std.proofs.Common.{◌≡◌, length}
use Rattle.trace_words.specs.Numbers.{digits_from}
use Rattle.trace_words.proofs.number.digits_upto.Given as goal

abbrev pub invariant-loop-digit : goal.invariant-loop-digit
invariant-loop-digit l = digits_from l.number l.rest ≡ digits_from 0 l.word

abbrev pub decreases-loop-digit : goal.decreases-loop-digit
decreases-loop-digit l = length l.rest
