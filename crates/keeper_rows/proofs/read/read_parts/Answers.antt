-- By the law of what is found.
use Rattle.std.proofs.Common.{rules, Ok, arith}
use Rattle.keeper_rows.proofs.Found.{found_in}
use Rattle.keeper_rows.proofs.read.read_parts.Goals as goal

pub returns-in-Ok-clause-found : goal.returns-in-Ok-clause-found
returns-in-Ok-clause-found c =
    found_in c.args.key.now c.args.content.now (Ok c.in-Ok.kept) (λ i. omega (arith, c.type_inv.key i)) (λ i. omega (arith, c.type_inv.content i)) (search rules)
