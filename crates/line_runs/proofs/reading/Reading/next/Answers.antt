-- At first nothing was read.
use Rattle.std.proofs.Common.{arith}
use Rattle.line_runs.proofs.Taking.{so_far_none}
use Rattle.line_runs.proofs.reading.Reading.next.Goals as goal

pub loop-line-init : goal.loop-line-init
loop-line-init g c = record {
  so_far = so_far_none (g.A.Source.left c.args.input.now) c.args.self.now;
  later = omega arith;
}
