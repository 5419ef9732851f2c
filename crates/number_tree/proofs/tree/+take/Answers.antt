-- The number is taken out below the node, on its side, or is the node.
use Rattle.std.proofs.Common.{rules, is_some, ◌≡◌, ◌++◌, ◌∷◌, ◌<◌, ◌∙◌, length, ap, sym, subst, arith}
use Rattle.std.proofs.lemmas.List.{length-append}
use Rattle.number_tree.specs.Numbers.{Rising, without, has}
use Rattle.number_tree.specs.Trees.{numbers}
use Rattle.number_tree.proofs.Places.{rising_left, rising_right, without_right, without_left, without_here, has_right, has_left, has_here}
use Rattle.number_tree.proofs.tree.+take.Goals as goal

pub take-high-requires : goal.take-high-requires
take-high-requires t c =
    let left = numbers c.halves-low.result.0 in
    let right = numbers c.halves-low.result.1 in
    let n = c.halves-low.new.node.number in
    let whole : numbers c.args.tree ≡ left ++ n ∷ right = search rules in
    (omega (arith, c.decreases, ap length whole, length-append left (n ∷ right)), rising_right left n right (subst Rising whole c.requires))

pub take-low-requires : goal.take-low-requires
take-low-requires t c =
    let left = numbers c.halves-low.result.0 in
    let right = numbers c.halves-low.result.1 in
    let n = c.halves-low.new.node.number in
    let whole : numbers c.args.tree ≡ left ++ n ∷ right = search rules in
    (omega (arith, c.decreases, ap length whole, length-append left (n ∷ right)), rising_left left n right (subst Rising whole c.requires))

pub returns-then-deref-number-clause-numbers : goal.returns-then-deref-number-clause-numbers
returns-then-deref-number-clause-numbers t c =
    let left = numbers c.halves-low.result.0 in
    let right = numbers c.halves-low.result.1 in
    let n = c.halves-low.new.node.number in
    let whole : numbers c.args.tree ≡ left ++ n ∷ right = search rules in
    let lt : n < c.args.number = search rules in
    let made : numbers c.fork.result ≡ left ++ n ∷ without c.args.number right = search rules in
    made ∙ (without_right c.args.number left n right (subst Rising whole c.requires) lt ∙ ap (without c.args.number) (sym whole))

pub returns-then-deref-number-clause-there : goal.returns-then-deref-number-clause-there
returns-then-deref-number-clause-there t c =
    let left = numbers c.halves-low.result.0 in
    let right = numbers c.halves-low.result.1 in
    let n = c.halves-low.new.node.number in
    let whole : numbers c.args.tree ≡ left ++ n ∷ right = search rules in
    let lt : n < c.args.number = search rules in
    let there : is_some c.take-high.result.1 ≡ has c.args.number right = search rules in
    there ∙ (has_right c.args.number left n right (subst Rising whole c.requires) lt ∙ ap (has c.args.number) (sym whole))

pub returns-then-number-deref-clause-numbers : goal.returns-then-number-deref-clause-numbers
returns-then-number-deref-clause-numbers t c =
    let left = numbers c.halves-low.result.0 in
    let right = numbers c.halves-low.result.1 in
    let n = c.halves-low.new.node.number in
    let whole : numbers c.args.tree ≡ left ++ n ∷ right = search rules in
    let lt : c.args.number < n = search rules in
    let made : numbers c.fork-then-number-deref.result ≡ without c.args.number left ++ n ∷ right = search rules in
    made ∙ (without_left c.args.number left n right (subst Rising whole c.requires) lt ∙ ap (without c.args.number) (sym whole))

pub returns-then-number-deref-clause-there : goal.returns-then-number-deref-clause-there
returns-then-number-deref-clause-there t c =
    let left = numbers c.halves-low.result.0 in
    let right = numbers c.halves-low.result.1 in
    let n = c.halves-low.new.node.number in
    let whole : numbers c.args.tree ≡ left ++ n ∷ right = search rules in
    let lt : c.args.number < n = search rules in
    let there : is_some c.take-low.result.1 ≡ has c.args.number left = search rules in
    there ∙ (has_left c.args.number left n right (subst Rising whole c.requires) lt ∙ ap (has c.args.number) (sym whole))

pub returns-else-number-deref-clause-numbers : goal.returns-else-number-deref-clause-numbers
returns-else-number-deref-clause-numbers t c =
    let left = numbers c.halves-low.result.0 in
    let right = numbers c.halves-low.result.1 in
    let n = c.halves-low.new.node.number in
    let whole : numbers c.args.tree ≡ left ++ n ∷ right = search rules in
    let lt : n ≡ c.args.number = search rules in
    let made : numbers c.join.result ≡ left ++ right = search rules in
    made ∙ (without_here c.args.number left n right (subst Rising whole c.requires) lt ∙ ap (without c.args.number) (sym whole))

pub returns-else-number-deref-clause-there : goal.returns-else-number-deref-clause-there
returns-else-number-deref-clause-there t c =
    let left = numbers c.halves-low.result.0 in
    let right = numbers c.halves-low.result.1 in
    let n = c.halves-low.new.node.number in
    let whole : numbers c.args.tree ≡ left ++ n ∷ right = search rules in
    let lt : n ≡ c.args.number = search rules in
    has_here c.args.number left n right (subst Rising whole c.requires) lt ∙ ap (has c.args.number) (sym whole)
