-- A turn goes on with one line more, or ends with the report.
use Rattle.std.proofs.Common.{arith}
use Rattle.line_runs.proofs.RunLemmas.{turn_ends, turn_goes}
use Rattle.line_runs.proofs.run.run_lines.Goals as goal

pub returns-in-Some-clause-reports : goal.returns-in-Some-clause-reports
returns-in-Some-clause-reports g c =
    turn_ends (g.T.LineTool.step c.args.tool.now) (g.T.LineTool.closing c.args.tool.now) (g.T.LineTool.stands c.loop-ended.tool c.args.tool.now)
    _ _ (g.A.Source.left c.args.input.now) _ _ _ _ _ c.loop-ended.reading _ c.in-Some.ensures.grows _
    (λ past stood at r. c.in-Some.ensures.turns c.args.tool.now past (g.A.Source.left c.args.input.now) (g.B.Sink.held c.args.out.now) stood at r)
    c.loop-ended.invariant.runs

pub loop-ended-preserved : goal.loop-ended-preserved
loop-ended-preserved g c =
    let m = c.in-None.ensures.moves_on in
    record {
      runs = turn_goes (g.T.LineTool.step c.args.tool.now) (g.T.LineTool.closing c.args.tool.now) _ _ _ _ _ _ _ _ _ _ _ c.in-None.ensures.grows _ _
          (λ past stood at r. c.in-None.ensures.turns c.args.tool.now past (g.A.Source.left c.args.input.now) (g.B.Sink.held c.args.out.now) stood at r)
          c.loop-ended.invariant.runs;
      rests = c.in-None.ensures.rests c.args.tool.now c.loop-ended.invariant.rests;
      limited = m.1 c.loop-ended.invariant.limited;
      numbered = omega (arith, m.0, c.loop-ended.invariant.numbered);
      known = c.in-None.ensures.knows_end c.loop-ended.invariant.known;
      read_later = omega (arith, c.in-None.ensures.read_cause.later);
      write_later = omega (arith, c.in-None.ensures.write_cause.later);
    }
