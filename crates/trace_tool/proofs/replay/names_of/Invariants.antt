-- The names so far, and those to come.
use Rattle.std.proofs.Common.{◌≡◌, ◌++◌, map}
use Rattle.trace_tool.specs.Linked.{wire_name}
use Rattle.trace_tool.proofs.replay.names_of.Given as goal

abbrev pub invariant-loop-name : goal.invariant-loop-name
invariant-loop-name l = l.names.items ++ map wire_name l.name-iterator ≡ map wire_name l.connections.entries
