-- By the laws of reading.
use Rattle.std.proofs.Common.{subst, arith}
use Rattle.amqp_structs.specs.Header.{Answers}
use Rattle.amqp_structs.proofs.Results.{result_again, found_in}
use Rattle.amqp_structs.proofs.result.read_result.Goals as goal

pub returns-clause-only : goal.returns-clause-only
returns-clause-only c = λ value fine is. subst (Answers c.read_from.result) (result_again c.args.octets.now value fine is) c.read_from.ensures

pub returns-clause-found : goal.returns-clause-found
returns-clause-found c = found_in c.args.octets.now c.read_from.result (λ i. omega (arith, c.type_inv.octets i)) c.read_from.ensures
