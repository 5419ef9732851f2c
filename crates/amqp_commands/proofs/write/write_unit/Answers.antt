-- What a unit is written as is placed.
use Rattle.std.proofs.Common.{◌≡◌, sym, subst, Result, Ok, Err, IfOk, List}
use Rattle.octet_reading.specs.declared.memory.NoMemory.{NoMemory}
use Rattle.amqp_frames.specs.declared.assembly.Segment.{Segment}
use Rattle.amqp_frames.specs.Assembly.{IsPlaced}
use Rattle.amqp_commands.specs.Units.{unit_segments}
use Rattle.amqp_commands.proofs.Sound.{placed}
use Rattle.amqp_commands.proofs.write.write_unit.Goals as goal

pub returns-clause-placed : goal.returns-clause-placed
returns-clause-placed c = by c.assembly_of.result c.assembly_of.ensures
  where
    by : (r : Result (List Segment) NoMemory) → IfOk r (λ assembly. assembly ≡ unit_segments c.args.unit.now) → IfOk r (λ assembly. IsPlaced assembly)
    by (Ok assembly) e = subst IsPlaced (sym e) (placed c.args.unit.now)
    by (Err e') e = tt
