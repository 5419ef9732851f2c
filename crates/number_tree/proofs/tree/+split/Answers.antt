-- Each half has fewer numbers, and rises.
use Rattle.std.proofs.Common.{rules, ◌≡◌, ◌++◌, ◌∷◌, length, ap, subst, arith}
use Rattle.std.proofs.lemmas.List.{length-append}
use Rattle.number_tree.specs.Numbers.{Rising}
use Rattle.number_tree.specs.Trees.{numbers}
use Rattle.number_tree.proofs.Places.{rising_left, rising_right}
use Rattle.number_tree.proofs.tree.+split.Goals as goal

pub split-low-requires : goal.split-low-requires
split-low-requires t c =
    let left = numbers c.halves-left.result.0 in
    let right = numbers c.halves-left.result.1 in
    let n = c.halves-left.new.node.number in
    let whole : numbers c.args.tree ≡ left ++ n ∷ right = search rules in
    (omega (arith, c.decreases, ap length whole, length-append left (n ∷ right)), rising_right left n right (subst Rising whole c.requires))

pub split-low-requires-else-deref-number : goal.split-low-requires-else-deref-number
split-low-requires-else-deref-number t c =
    let left = numbers c.halves-left.result.0 in
    let right = numbers c.halves-left.result.1 in
    let n = c.halves-left.new.node.number in
    let whole : numbers c.args.tree ≡ left ++ n ∷ right = search rules in
    (omega (arith, c.decreases, ap length whole, length-append left (n ∷ right)), rising_left left n right (subst Rising whole c.requires))
