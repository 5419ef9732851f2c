-- The units so far.
use Rattle.std.proofs.Common.{◌≡◌, ◌++◌, flat_map, take}
use Rattle.broker_engine.specs.Wire.{out_octets}
use Rattle.broker_engine.proofs.write.push_outs.Given as goal

abbrev pub invariant-loop-sent : goal.invariant-loop-sent
invariant-loop-sent l = l.max_frame ≡ 65535 → l.out.items ≡ l.initial.out.items ++ flat_map out_octets (take l.sent-index l.outs)
