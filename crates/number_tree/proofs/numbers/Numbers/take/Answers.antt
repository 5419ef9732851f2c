-- The numbers still rise.
use Rattle.std.proofs.Common.{rules, ◌≡◌, sym, subst}
use Rattle.number_tree.specs.Numbers.{Rising, without}
use Rattle.number_tree.specs.Trees.{numbers}
use Rattle.number_tree.proofs.Places.{rising_without}
use Rattle.number_tree.proofs.numbers.Numbers.take.Goals as goal

pub invariant_of-self : goal.invariant_of-self
invariant_of-self c =
    let made : numbers c.take-root.result.0 ≡ without c.args.number (numbers c.self.inside.root) = search rules in
    subst Rising (sym made) (rising_without c.args.number (numbers c.self.inside.root) c.self.invariant)
