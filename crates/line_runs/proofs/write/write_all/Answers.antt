-- What a write takes joins the front, and the rest is shorter.
use Rattle.std.proofs.Common.{arith}
use Rattle.line_runs.proofs.Writing.{wrote_more}
use Rattle.line_runs.proofs.write.write_all.Goals as goal

pub loop-rest-preserved : goal.loop-rest-preserved
loop-rest-preserved g c = record {
  wrote = wrote_more _ _ _ c.args.piece.now c.loop-rest.rest.now c.in-Took.count c.loop-rest.invariant.wrote c.in-Took.ensures.moves.1 c.in-Took.ensures.moves.2;
  later = omega (arith, c.in-Took.ensures.cause.later);
}
