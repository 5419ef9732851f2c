-- By the laws of reading.
use Rattle.std.proofs.Common.{subst, arith}
use Rattle.amqp_values.specs.Values.{Answers}
use Rattle.amqp_values.proofs.Public.{read_back, found_in}
use Rattle.amqp_values.proofs.read.read_value.Goals as goal

pub returns-clause-only : goal.returns-clause-only
returns-clause-only c = λ value rest valid same there.
    subst (Answers c.read_from.result) (read_back c.args.code c.args.octets.now c.args.at value rest valid same there) c.read_from.ensures

pub returns-clause-found : goal.returns-clause-found
returns-clause-found c = found_in c.args.code c.args.octets.now c.args.at c.read_from.result (λ i. omega (arith, c.type_inv.octets i)) c.read_from.ensures
