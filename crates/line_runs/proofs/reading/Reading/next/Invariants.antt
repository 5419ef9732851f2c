-- What was read so far stands at the end of what was at hand, and each turn reads more.
use Rattle.std.proofs.Common.{◌-◌, ◌≤◌, ◌^◌}
use Rattle.line_runs.proofs.Taking.{SoFar}
use Rattle.line_runs.proofs.reading.Reading.next.Given as goal

abbrev pub invariant-loop-line : goal.invariant-loop-line
invariant-loop-line g l = record {
  so_far : SoFar (g.A.Source.left l.initial.input) (g.A.Source.left l.input) l.initial.self l.self;
  later : g.A.Source.faults l.initial.input ≤ g.A.Source.faults l.input;
}

abbrev pub decreases-loop-line : goal.decreases-loop-line
decreases-loop-line g l = 2 ^ 30 - l.self.count
