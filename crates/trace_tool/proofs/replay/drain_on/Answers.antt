-- What the connection is in the definitions decides.
use Rattle.std.proofs.Common.{Some, None}
use Rattle.trace_tool.proofs.Linking.{link_alike, drained_shut, drained_open, drained_err, drained_none}
use Rattle.trace_tool.proofs.replay.drain_on.Goals as goal

pub returns-then-is_closed-clause-drained : goal.returns-then-is_closed-clause-drained
returns-then-is_closed-clause-drained g c = λ h links s p.
    drained_shut c.args.hub.now h _ c.in-Some.wire.now c.args.sent.now.items (link_alike c.args.connection c.args.connections.now.entries links (Some c.in-Some.wire.now) c.in-Some.ensures.value p) s
    (λ before t. c.if-is_closed.ensures before t)

pub returns-in-Ok-clause-drained : goal.returns-in-Ok-clause-drained
returns-in-Ok-clause-drained g c = λ h links s p.
    drained_open c.drain.new.hub h _ c.in-Some.wire.now c.args.sent.now.items c.drain.new.sent.items (link_alike c.args.connection c.args.connections.now.entries links (Some c.in-Some.wire.now) c.in-Some.ensures.value p) (λ wide. c.in-Ok.ensures.drains h s wide)
    (λ before t. c.if-is_closed.ensures before t)

pub returns-in-Err-clause-drained : goal.returns-in-Err-clause-drained
returns-in-Err-clause-drained g c = λ h links s p.
    drained_err c.drain.new.hub h _ c.in-Some.wire.now c.args.sent.now.items c.drain.new.sent.items (link_alike c.args.connection c.args.connections.now.entries links (Some c.in-Some.wire.now) c.in-Some.ensures.value p)

pub returns-in-None-clause-drained : goal.returns-in-None-clause-drained
returns-in-None-clause-drained g c = λ h links s p.
    drained_none c.args.hub.now h _ c.args.sent.now.items c.args.sent.now.items (link_alike c.args.connection c.args.connections.now.entries links None c.in-None.ensures.value p)
