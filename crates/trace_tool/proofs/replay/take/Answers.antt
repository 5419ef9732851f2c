-- The row is taken from both tables.
use Rattle.std.proofs.Common.{ap, sym}
use Rattle.std.specs.Option.{option_map}
use Rattle.broker_engine.specs.Trace.{Link}
use Rattle.trace_tool.proofs.Linking.{gone_alike, link_alike, number_alike, none_alike}
use Rattle.trace_tool.proofs.replay.take.Goals as goal

pub returns-in-Some-clause-number : goal.returns-in-Some-clause-number
returns-in-Some-clause-number c = λ links p. number_alike c.remove.result _ c.in-Some.wire c.in-Some.is (link_alike c.args.connection c.args.connections.now.entries links c.remove.result c.remove.ensures.value p)

pub returns-in-Some-clause-gone : goal.returns-in-Some-clause-gone
returns-in-Some-clause-gone c = λ links p. gone_alike c.args.connection c.args.connections.now.entries _ links c.remove.ensures.entries p

pub returns-in-None-clause-number : goal.returns-in-None-clause-number
returns-in-None-clause-number c = λ links p.
    sym (ap (option_map (λ (l : Link). l.number)) (none_alike c.remove.result _ c.in-None.is (link_alike c.args.connection c.args.connections.now.entries links c.remove.result c.remove.ensures.value p)))

pub returns-in-None-clause-gone : goal.returns-in-None-clause-gone
returns-in-None-clause-gone c = λ links p. gone_alike c.args.connection c.args.connections.now.entries _ links c.remove.ensures.entries p
