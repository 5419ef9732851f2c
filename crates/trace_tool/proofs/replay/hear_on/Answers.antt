-- The connection's own piece is heard, and its row says so.
use Rattle.trace_tool.specs.declared.wire.Wire.{Wire}
use Rattle.trace_tool.proofs.Linking.{linked, linked_none}
use Rattle.trace_tool.proofs.replay.hear_on.Goals as goal

pub returns-in-Some-clause-heard : goal.returns-in-Some-clause-heard
returns-in-Some-clause-heard g c = λ h links s p.
    let wire : Wire = c.in-Some.wire.now in
    let newer : Wire = record { number = wire.number; conn = c.hear_piece.new.conn } in
    linked c.hear_piece.new.hub c.args.connections.now.entries _ h links c.args.connection c.args.octets.now c.args.sent.now.items c.hear_piece.new.sent.items c.hear_piece.result wire c.hear_piece.new.conn
    c.in-Some.ensures.value p (c.get_mut.follows.holds newer).0 (λ before t. c.hear_piece.ensures.heard h before s t)

pub returns-in-None-clause-heard : goal.returns-in-None-clause-heard
returns-in-None-clause-heard g c = λ h links s p. linked_none c.args.hub.now c.args.connections.now.entries c.args.connections.now.entries h links c.args.connection c.args.octets.now c.args.sent.now.items c.args.sent.now.items c.in-None.ensures.value p
