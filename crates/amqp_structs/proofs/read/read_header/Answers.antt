-- By the laws of reading.
use Rattle.std.proofs.Common.{subst, arith}
use Rattle.amqp_structs.specs.Header.{Answers}
use Rattle.amqp_structs.proofs.Public.{read_back, found_in}
use Rattle.amqp_structs.proofs.Fine.{fine_in}
use Rattle.amqp_structs.proofs.read.read_header.Goals as goal

pub returns-clause-only : goal.returns-clause-only
returns-clause-only c = λ items fine is. subst (Answers c.read_from.result) (read_back c.args.octets.now items fine is) c.read_from.ensures

pub returns-clause-found : goal.returns-clause-found
returns-clause-found c = found_in c.args.octets.now c.read_from.result (λ i. omega (arith, c.type_inv.octets i)) c.read_from.ensures

pub returns-clause-fine : goal.returns-clause-fine
returns-clause-fine c = λ short. fine_in c.args.octets.now c.read_from.result (λ i. omega (arith, c.type_inv.octets i)) c.read_from.ensures short
