-- There is one less.
use Rattle.std.proofs.Common.{◌≡◌, sym, ap, subst, length, true, arith}
use Rattle.number_tree.specs.Numbers.{has, Rising}
use Rattle.queue_copies.specs.Shelves.{Shelved}
use Rattle.queue_copies.proofs.Numbers.{length_without}
use Rattle.queue_copies.proofs.shelf.Shelf.take.Goals as goal

pub invariant_of-self : goal.invariant_of-self
invariant_of-self c =
    let rising = subst (λ (s : Shelved). Rising s.available) (sym c.self.view_is) c.requires.rising in
    let there = subst (λ (s : Shelved). has c.args.number s.available ≡ true) (sym c.self.view_is) c.requires.there in
    omega (arith, c.self.invariant, ap length c.take.ensures.numbers, length_without c.args.number c.self.inside.numbers rising there)
