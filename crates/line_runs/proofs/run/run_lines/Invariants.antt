-- The tool stands for the lines that it took, and what they give was written.
use Rattle.std.proofs.Common.{◌≡◌, ◌+◌, ◌-◌, ◌≤◌, ◌^◌, length, true}
use Rattle.std.specs.Io.KnownBytes.{IsAtEnd}
use Rattle.line_runs.proofs.RunLemmas.{Goes}
use Rattle.line_runs.proofs.run.run_lines.Given as goal

abbrev pub invariant-loop-ended : goal.invariant-loop-ended
invariant-loop-ended g l = record {
  runs : Goes (g.T.LineTool.step l.initial.tool) (g.T.LineTool.given l.tool) (g.T.LineTool.stands l.tool l.initial.tool)
      (g.A.Source.left l.initial.input) (g.A.Source.left l.input) (g.B.Sink.held l.initial.out) (g.B.Sink.held l.out) l.reading l.number;
  rests : g.T.LineTool.rests l.tool l.initial.tool;
  limited : l.reading.count ≤ 2 ^ 30;
  numbered : l.number + length l.reading.text ≤ l.reading.count + 1;
  known : l.reading.ended ≡ true → IsAtEnd (g.A.Source.left l.input);
  read_later : g.A.Source.faults l.initial.input ≤ g.A.Source.faults l.input;
  write_later : g.B.Sink.faults l.initial.out ≤ g.B.Sink.faults l.out;
}

abbrev pub decreases-loop-ended : goal.decreases-loop-ended
decreases-loop-ended g l = 2 ^ 30 + length l.reading.text - l.reading.count
