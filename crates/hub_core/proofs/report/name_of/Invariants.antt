-- The name is found in the rest.
use Rattle.std.proofs.Common.{◌≡◌, length}
use Rattle.history_model.specs.Report.{trace_number}
use Rattle.hub_core.proofs.report.name_of.Given as goal

abbrev pub invariant-loop-first : goal.invariant-loop-first
invariant-loop-first l = trace_number l.rest l.connection ≡ trace_number l.names l.connection

abbrev pub decreases-loop-first : goal.decreases-loop-first
decreases-loop-first l = length l.rest
