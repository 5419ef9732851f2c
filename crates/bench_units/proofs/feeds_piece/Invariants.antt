-- Each turn takes some of the piece.
use Rattle.std.proofs.Common.{length}
use Rattle.bench_units.proofs.feeds_piece.Given as goal

abbrev pub decreases-loop-rest : goal.decreases-loop-rest
decreases-loop-rest l = length l.rest
