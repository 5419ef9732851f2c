-- The least one stands to the left, or it is the node.
use Rattle.std.proofs.Common.{rules, ◌≡◌, ◌++◌, ◌∷◌, ◌<◌, ◌∙◌, Some, None, length, ap, sym, arith}
use Rattle.std.proofs.lemmas.List.{length-append}
use Rattle.number_tree.specs.Numbers.{first_of}
use Rattle.number_tree.specs.Trees.{numbers}
use Rattle.number_tree.proofs.Places.{first_some, first_none}
use Rattle.number_tree.proofs.tree.+least.Goals as goal

pub least-requires : goal.least-requires
least-requires t c =
    let left = numbers c.in-Fork.root.value.left in
    let right = numbers c.in-Fork.root.value.right in
    let n = c.in-Fork.root.value.number in
    let whole : numbers c.args.tree.now ≡ left ++ n ∷ right = search rules in
    let same : numbers c.left_of.result.now ≡ left = search rules in
    (omega (arith, c.decreases, ap length whole, ap length same, length-append left (n ∷ right)), tt)

pub returns-in-Some : goal.returns-in-Some
returns-in-Some t c =
    let left = numbers c.in-Fork.root.value.left in
    let right = numbers c.in-Fork.root.value.right in
    let n = c.in-Fork.root.value.number in
    let whole : numbers c.args.tree.now ≡ left ++ n ∷ right = search rules in
    let found : first_of left ≡ Some c.in-Some.number = search rules in
    first_some left n right c.in-Some.number found ∙ ap first_of (sym whole)

pub returns-in-None : goal.returns-in-None
returns-in-None t c =
    let left = numbers c.in-Fork.root.value.left in
    let right = numbers c.in-Fork.root.value.right in
    let n = c.in-Fork.root.value.number in
    let whole : numbers c.args.tree.now ≡ left ++ n ∷ right = search rules in
    let found : first_of left ≡ None = search rules in
    let same : c.deref-in-None.result.now.number ≡ n = search rules in
    ap Some same ∙ (first_none left n right found ∙ ap first_of (sym whole))
