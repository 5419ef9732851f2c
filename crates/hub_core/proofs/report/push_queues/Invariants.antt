-- The lines so far, and those to come.
use Rattle.std.proofs.Common.{◌≡◌, ◌++◌, flat_map}
use Rattle.history_model.specs.Report.{queue_line}
use Rattle.hub_core.proofs.report.push_queues.Given as goal

abbrev pub invariant-loop-name : goal.invariant-loop-name
invariant-loop-name l = l.text.items ++ flat_map queue_line l.name-iterator ≡ l.initial.text.items ++ flat_map queue_line l.queues.keys
