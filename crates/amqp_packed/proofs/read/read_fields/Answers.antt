-- By the laws of reading.
use Rattle.std.proofs.Common.{subst, arith}
use Rattle.amqp_packed.specs.Reading.{Answers}
use Rattle.amqp_packed.proofs.Again.{read_back}
use Rattle.amqp_packed.proofs.Structs.{found_in}
use Rattle.amqp_packed.proofs.read.read_fields.Goals as goal

pub returns-clause-only : goal.returns-clause-only
returns-clause-only c = λ fields rest fit there.
    subst (Answers c.read_from.result) (read_back c.args.table.now c.args.octets.now c.args.at fields rest fit there) c.read_from.ensures

pub returns-clause-found : goal.returns-clause-found
returns-clause-found c = found_in c.args.table.now c.args.octets.now c.args.at c.read_from.result (λ i. omega (arith, c.type_inv.octets i)) c.read_from.ensures
