-- The piece is heard on its connection, and its lines are written.
use Rattle.std.proofs.Common.{Ok, Err, ◌∙◌, ap, subst}
use Rattle.trace_tool.specs.Linked.{Linked}
use Rattle.trace_tool.specs.Replay.{went_lines}
use Rattle.trace_tool.proofs.Linking.{bytes_came, bytes_stopped}
use Rattle.trace_tool.proofs.replay.Replay.bytes.Goals as goal

pub returns-in-Ok-lines_of-clause-happens : goal.returns-in-Ok-lines_of-clause-happens
returns-in-Ok-lines_of-clause-happens g c = λ p s.
    bytes_came (record { hub = c.hear_on.new.hub; connections = c.hear_on.new.connections; time = c.args.self.now.time }) p c.args.connection c.args.octets.now c.in-Ok-lines_of.lines
    c.new-sent.result.items c.hear_on.new.sent.items c.in-Ok.refused c.new-sent.ensures.items
    (subst (λ xs. Linked c.hear_on.new.hub c.hear_on.new.connections.entries p.arrivals p.connections c.args.connection xs c.new-sent.result.items c.hear_on.new.sent.items (Ok c.in-Ok.refused)) c.as_slice.ensures
    (c.in-Ok.ensures.heard p.arrivals p.connections s.serves s.links_are))
    (c.in-Ok-lines_of.ensures ∙ ap (λ xs. went_lines c.args.connection xs c.in-Ok.refused) c.as_slice-in-Ok.ensures.value)

pub returns-clause-happens : goal.returns-clause-happens
returns-clause-happens g c = λ p s.
    bytes_stopped (record { hub = c.hear_on.new.hub; connections = c.hear_on.new.connections; time = c.args.self.now.time }) c.hear_on.new.hub c.hear_on.new.connections.entries p c.args.connection c.args.octets.now c.new-sent.result.items c.hear_on.new.sent.items c.in-Err.stop
    (subst (λ xs. Linked c.hear_on.new.hub c.hear_on.new.connections.entries p.arrivals p.connections c.args.connection xs c.new-sent.result.items c.hear_on.new.sent.items (Err c.in-Err.stop)) c.as_slice.ensures
    (c.in-Err.ensures.heard p.arrivals p.connections s.serves s.links_are))
