-- Turns follow one another until one ends the run.
use Rattle.std.proofs.Common.{arith}
use Rattle.octet_tools.proofs.Running.{reached_start}
use Rattle.octet_tools.proofs.run.run_over.Goals as goal

pub loop-count-init : goal.loop-count-init
loop-count-init g c = record {
  reached = reached_start c.args.tool (g.A.Source.left c.args.input.now) (g.B.Sink.held c.args.out.now) c.args.stage.now c.requires.fresh;
  limited = omega arith;
  read_later = omega arith;
  write_later = omega arith;
}

pub loop-count-preserved : goal.loop-count-preserved
loop-count-preserved g c =
    let i = c.loop-count.invariant in
    let m = c.in-More.ensures.moves in
    record {
      reached = c.in-More.ensures.turns (g.A.Source.left c.args.input.now) (g.B.Sink.held c.args.out.now) i.reached m.1;
      limited = omega (arith, i.limited);
      read_later = omega (arith, i.read_later, c.in-More.ensures.read_cause);
      write_later = omega (arith, i.write_later, c.in-More.ensures.write_cause);
    }

pub returns-in-Over-clause-reports : goal.returns-in-Over-clause-reports
returns-in-Over-clause-reports g c = c.in-Over.ensures.turns (g.A.Source.left c.args.input.now) (g.B.Sink.held c.args.out.now) c.loop-count.invariant.reached

pub returns-in-Over-clause-read_cause : goal.returns-in-Over-clause-read_cause
returns-in-Over-clause-read_cause g c = record {
  later = omega (arith, c.loop-count.invariant.read_later, c.in-Over.ensures.read_cause.later);
  failed = λ e. omega (arith, c.loop-count.invariant.read_later, c.in-Over.ensures.read_cause.failed e);
}

pub returns-in-Over-clause-write_cause : goal.returns-in-Over-clause-write_cause
returns-in-Over-clause-write_cause g c = record {
  later = omega (arith, c.loop-count.invariant.write_later, c.in-Over.ensures.write_cause.later);
  failed = λ e. omega (arith, c.loop-count.invariant.write_later, c.in-Over.ensures.write_cause.failed e);
}
