-- Deliveries went out on the connection, or it isn't there.
use Rattle.std.proofs.Common.{None, ◌∙◌, ap}
use Rattle.trace_tool.specs.Replay.{went_lines}
use Rattle.trace_tool.proofs.Linking.{drained_is, not_drained}
use Rattle.trace_tool.proofs.replay.Replay.quiet.Goals as goal

pub returns-in-Ok-lines_of-clause-happens : goal.returns-in-Ok-lines_of-clause-happens
returns-in-Ok-lines_of-clause-happens g c = λ p s.
    drained_is (record { hub = c.drain_on.new.hub; connections = c.args.self.now.connections; time = c.args.self.now.time }) p c.args.connection c.in-Ok-lines_of.lines c.new-sent.result.items c.drain_on.new.sent.items c.new-sent.ensures.items
    (c.in-Ok-lines_of.ensures ∙ ap (λ xs. went_lines c.args.connection xs None) c.as_slice.ensures.value)
    (c.in-Ok.ensures.drained p.arrivals p.connections s.serves s.links_are) s.links_are

pub returns-clause-happens : goal.returns-clause-happens
returns-clause-happens g c = λ p s.
    not_drained (record { hub = c.drain_on.new.hub; connections = c.args.self.now.connections; time = c.args.self.now.time }) c.drain_on.new.hub p c.args.connection c.new-sent.result.items c.drain_on.new.sent.items c.in-Err.stop
    (c.in-Err.ensures.drained p.arrivals p.connections s.serves s.links_are)
