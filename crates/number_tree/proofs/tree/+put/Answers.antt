-- The number is put in below the node, on its side.
use Rattle.std.proofs.Common.{rules, ◌≡◌, ◌++◌, ◌∷◌, ◌<◌, ◌≤◌, ◌∙◌, length, ap, sym, subst, arith}
use Rattle.std.proofs.lemmas.List.{length-append}
use Rattle.number_tree.specs.Numbers.{Rising, with_number}
use Rattle.number_tree.specs.Trees.{numbers}
use Rattle.number_tree.proofs.Places.{rising_left, rising_right, put_right, put_left}
use Rattle.number_tree.proofs.tree.+put.Goals as goal

pub put-requires : goal.put-requires
put-requires t c =
    let left = numbers c.halves-low.result.0 in
    let right = numbers c.halves-low.result.1 in
    let n = c.halves-low.new.node.number in
    let whole : numbers c.args.tree ≡ left ++ n ∷ right = search rules in
    (omega (arith, c.decreases, ap length whole, length-append left (n ∷ right)), rising_right left n right (subst Rising whole c.requires))

pub put-requires-else-deref : goal.put-requires-else-deref
put-requires-else-deref t c =
    let left = numbers c.halves-low.result.0 in
    let right = numbers c.halves-low.result.1 in
    let n = c.halves-low.new.node.number in
    let whole : numbers c.args.tree ≡ left ++ n ∷ right = search rules in
    (omega (arith, c.decreases, ap length whole, length-append left (n ∷ right)), rising_left left n right (subst Rising whole c.requires))

pub returns-then-deref : goal.returns-then-deref
returns-then-deref t c =
    let left = numbers c.halves-low.result.0 in
    let right = numbers c.halves-low.result.1 in
    let n = c.halves-low.new.node.number in
    let whole : numbers c.args.tree ≡ left ++ n ∷ right = search rules in
    let lt : n < c.args.node.value.number = search rules in
    let made : numbers c.fork-then-deref.result ≡ left ++ n ∷ with_number c.args.node.value.number right = search rules in
    made ∙ (put_right c.args.node.value.number left n right (subst Rising whole c.requires) lt ∙ ap (with_number c.args.node.value.number) (sym whole))

pub returns-else-deref : goal.returns-else-deref
returns-else-deref t c =
    let left = numbers c.halves-low.result.0 in
    let right = numbers c.halves-low.result.1 in
    let n = c.halves-low.new.node.number in
    let whole : numbers c.args.tree ≡ left ++ n ∷ right = search rules in
    let le : c.args.node.value.number ≤ n = search rules in
    let made : numbers c.fork-else-deref.result ≡ with_number c.args.node.value.number left ++ n ∷ right = search rules in
    made ∙ (put_left c.args.node.value.number left n right (subst Rising whole c.requires) le ∙ ap (with_number c.args.node.value.number) (sym whole))
