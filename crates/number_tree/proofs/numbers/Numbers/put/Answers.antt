-- The numbers still rise.
use Rattle.std.proofs.Common.{rules, ◌≡◌, sym, subst, false}
use Rattle.number_tree.specs.Numbers.{Rising, has, with_number}
use Rattle.number_tree.specs.Trees.{numbers}
use Rattle.number_tree.proofs.Places.{rising_with}
use Rattle.number_tree.proofs.numbers.Numbers.put.Goals as goal

pub invariant_of-self : goal.invariant_of-self
invariant_of-self c =
    let fresh : has c.args.number (numbers c.self.inside.root) ≡ false = search rules in
    let made : numbers c.put.result ≡ with_number c.args.number (numbers c.self.inside.root) = search rules in
    subst Rising (sym made) (rising_with c.args.number (numbers c.self.inside.root) fresh c.self.invariant)
