-- By the laws of reading.
use Rattle.std.proofs.Common.{subst, ap, ◌∙◌}
use Rattle.amqp_commands.specs.Units.{Answers, unit_in}
use Rattle.amqp_commands.specs.Spelled.{AllBytes}
use Rattle.amqp_commands.proofs.Again.{unit_again}
use Rattle.amqp_commands.proofs.Found.{found_in}
use Rattle.amqp_commands.proofs.Fine.{fine_in}
use Rattle.amqp_commands.proofs.read.read_unit.Goals as goal

pub returns-clause-only : goal.returns-clause-only
returns-clause-only c = λ unit fine is. subst (Answers c.unit_of.result) (ap unit_in c.as_slice-segments.ensures ∙ unit_again c.args.assembly.now unit fine is) c.unit_of.ensures

pub returns-clause-found : goal.returns-clause-found
returns-clause-found c = found_in c.args.assembly.now c.unit_of.result (subst AllBytes c.as_slice-segments.ensures c.are_octets.ensures) c.requires (subst (λ segments. Answers c.unit_of.result (unit_in segments)) c.as_slice-segments.ensures c.unit_of.ensures)

pub returns-clause-fine : goal.returns-clause-fine
returns-clause-fine c = λ short. fine_in c.args.assembly.now c.unit_of.result short (returns-clause-found c)
