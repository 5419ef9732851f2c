-- The least one above a number is on the number's side, or it is the node.
use Rattle.std.proofs.Common.{rules, ◌≡◌, ◌++◌, ◌∷◌, ◌<◌, ◌≤◌, ◌∙◌, Some, None, length, ap, sym, subst, arith}
use Rattle.std.proofs.lemmas.List.{length-append}
use Rattle.number_tree.specs.Numbers.{Rising, first_above}
use Rattle.number_tree.specs.Trees.{numbers}
use Rattle.number_tree.proofs.Places.{rising_left, rising_right, above_right, above_left_some, above_left_none}
use Rattle.number_tree.proofs.tree.+least_above.Goals as goal

pub least_above-requires : goal.least_above-requires
least_above-requires t c =
    let left = numbers c.in-Fork.root.value.left in
    let right = numbers c.in-Fork.root.value.right in
    let n = c.in-Fork.root.value.number in
    let whole : numbers c.args.tree.now ≡ left ++ n ∷ right = search rules in
    let same : numbers c.right_of.result.now ≡ right = search rules in
    (omega (arith, c.decreases, ap length whole, ap length same, length-append left (n ∷ right)), subst Rising (sym same) (rising_right left n right (subst Rising whole c.requires)))

pub least_above-requires-else-deref-number : goal.least_above-requires-else-deref-number
least_above-requires-else-deref-number t c =
    let left = numbers c.in-Fork.root.value.left in
    let right = numbers c.in-Fork.root.value.right in
    let n = c.in-Fork.root.value.number in
    let whole : numbers c.args.tree.now ≡ left ++ n ∷ right = search rules in
    let same : numbers c.left_of.result.now ≡ left = search rules in
    (omega (arith, c.decreases, ap length whole, ap length same, length-append left (n ∷ right)), subst Rising (sym same) (rising_left left n right (subst Rising whole c.requires)))

pub returns-then-deref-number : goal.returns-then-deref-number
returns-then-deref-number t c =
    let left = numbers c.in-Fork.root.value.left in
    let right = numbers c.in-Fork.root.value.right in
    let n = c.in-Fork.root.value.number in
    let whole : numbers c.args.tree.now ≡ left ++ n ∷ right = search rules in
    let le : n ≤ c.args.number = search rules in
    let found : c.least_above.result ≡ first_above c.args.number right = search rules in
    found ∙ (above_right c.args.number left n right (subst Rising whole c.requires) le ∙ ap (first_above c.args.number) (sym whole))

pub returns-in-Some : goal.returns-in-Some
returns-in-Some t c =
    let left = numbers c.in-Fork.root.value.left in
    let right = numbers c.in-Fork.root.value.right in
    let n = c.in-Fork.root.value.number in
    let whole : numbers c.args.tree.now ≡ left ++ n ∷ right = search rules in
    let lt : c.args.number < n = search rules in
    let found : first_above c.args.number left ≡ Some c.in-Some.least = search rules in
    above_left_some c.args.number left n right (subst Rising whole c.requires) lt c.in-Some.least found ∙ ap (first_above c.args.number) (sym whole)

pub returns-in-None : goal.returns-in-None
returns-in-None t c =
    let left = numbers c.in-Fork.root.value.left in
    let right = numbers c.in-Fork.root.value.right in
    let n = c.in-Fork.root.value.number in
    let whole : numbers c.args.tree.now ≡ left ++ n ∷ right = search rules in
    let lt : c.args.number < n = search rules in
    let found : first_above c.args.number left ≡ None = search rules in
    let same : c.deref-in-None.result.now.number ≡ n = search rules in
    ap Some same ∙ (above_left_none c.args.number left n right (subst Rising whole c.requires) lt found ∙ ap (first_above c.args.number) (sym whole))
