-- The octets so far were taken, and their text written.
use Rattle.std.proofs.Common.{◌≤◌, ◌^◌}
use Rattle.octet_tools.specs.Run.{Reached}
use Rattle.octet_tools.proofs.run.run_over.Given as goal

abbrev pub invariant-loop-count : goal.invariant-loop-count
invariant-loop-count g l = record {
  reached : Reached l.tool (g.A.Source.left l.initial.input) (g.A.Source.left l.input) (g.B.Sink.held l.initial.out) (g.B.Sink.held l.out) l.stage l.room;
  limited : l.room ≤ 2 ^ 30;
  read_later : g.A.Source.faults l.initial.input ≤ g.A.Source.faults l.input;
  write_later : g.B.Sink.faults l.initial.out ≤ g.B.Sink.faults l.out;
}

abbrev pub decreases-loop-count : goal.decreases-loop-count
decreases-loop-count g l = l.room
