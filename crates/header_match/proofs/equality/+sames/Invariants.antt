-- All parts so far are equal.
use Rattle.std.proofs.Common.{◌≡◌, true, take, map}
use Rattle.header_match.specs.Equality.{pairwise, passes, pair_passes, equal_to, pair_test}
use Rattle.header_match.proofs.equality.+sames.Given as goal

abbrev pub invariant-same_items-loop-i : goal.invariant-same_items-loop-i
invariant-same_items-loop-i l = pairwise passes (take l.i (map equal_to l.a)) (take l.i l.b) ≡ true

abbrev pub invariant-same_pairs-loop-i : goal.invariant-same_pairs-loop-i
invariant-same_pairs-loop-i l = pairwise pair_passes (take l.i (map pair_test l.a)) (take l.i l.b) ≡ true
