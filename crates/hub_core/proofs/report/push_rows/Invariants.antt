-- The lines so far, and those to come.
use Rattle.std.proofs.Common.{◌≡◌, ◌++◌, flat_map}
use Rattle.hub_core.specs.Rows.{row_text}
use Rattle.hub_core.proofs.report.push_rows.Given as goal

abbrev pub invariant-loop-name : goal.invariant-loop-name
invariant-loop-name l = l.text.items ++ flat_map (row_text l.names) l.name-iterator ≡ l.initial.text.items ++ flat_map (row_text l.names) l.sessions.entries
