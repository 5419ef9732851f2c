-- There is one more.
use Rattle.std.proofs.Common.{ap, length, arith}
use Rattle.queue_copies.proofs.Numbers.{length_with}
use Rattle.queue_copies.proofs.shelf.Shelf.put.Goals as goal

pub invariant_of-self : goal.invariant_of-self
invariant_of-self c = omega (arith, c.self.invariant, ap length c.put.ensures, length_with c.args.number c.self.inside.numbers)
