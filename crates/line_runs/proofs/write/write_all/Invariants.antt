-- A front of the piece was written, and each write takes some of the rest.
use Rattle.std.proofs.Common.{◌≤◌, length}
use Rattle.line_runs.proofs.Writing.{Wrote}
use Rattle.line_runs.proofs.write.write_all.Given as goal

abbrev pub decreases-loop-rest : goal.decreases-loop-rest
decreases-loop-rest g l = length l.rest

abbrev pub invariant-loop-rest : goal.invariant-loop-rest
invariant-loop-rest g l = record {
  wrote : Wrote (g.B.Sink.held l.initial.out) (g.B.Sink.held l.out) l.piece l.rest;
  later : g.B.Sink.faults l.initial.out ≤ g.B.Sink.faults l.out;
}
