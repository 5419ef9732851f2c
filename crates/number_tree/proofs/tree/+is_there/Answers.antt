-- The number is on its side of the node, or it is the node.
use Rattle.std.proofs.Common.{rules, ◌≡◌, ◌++◌, ◌∷◌, ◌<◌, ◌∙◌, length, ap, sym, subst, arith}
use Rattle.std.proofs.lemmas.List.{length-append}
use Rattle.number_tree.specs.Numbers.{Rising, has}
use Rattle.number_tree.specs.Trees.{numbers}
use Rattle.number_tree.proofs.Places.{rising_left, rising_right, has_right, has_left, has_here}
use Rattle.number_tree.proofs.tree.+is_there.Goals as goal

pub is_there-requires : goal.is_there-requires
is_there-requires t c =
    let left = numbers c.in-Fork.root.value.left in
    let right = numbers c.in-Fork.root.value.right in
    let n = c.in-Fork.root.value.number in
    let whole : numbers c.args.tree.now ≡ left ++ n ∷ right = search rules in
    let same : numbers c.right_of.result.now ≡ right = search rules in
    (omega (arith, c.decreases, ap length whole, ap length same, length-append left (n ∷ right)), subst Rising (sym same) (rising_right left n right (subst Rising whole c.requires)))

pub is_there-requires-then-number-deref : goal.is_there-requires-then-number-deref
is_there-requires-then-number-deref t c =
    let left = numbers c.in-Fork.root.value.left in
    let right = numbers c.in-Fork.root.value.right in
    let n = c.in-Fork.root.value.number in
    let whole : numbers c.args.tree.now ≡ left ++ n ∷ right = search rules in
    let same : numbers c.left_of.result.now ≡ left = search rules in
    (omega (arith, c.decreases, ap length whole, ap length same, length-append left (n ∷ right)), subst Rising (sym same) (rising_left left n right (subst Rising whole c.requires)))

pub returns-then-deref-number : goal.returns-then-deref-number
returns-then-deref-number t c =
    let left = numbers c.in-Fork.root.value.left in
    let right = numbers c.in-Fork.root.value.right in
    let n = c.in-Fork.root.value.number in
    let whole : numbers c.args.tree.now ≡ left ++ n ∷ right = search rules in
    let lt : n < c.args.number = search rules in
    let found : c.is_there.result ≡ has c.args.number right = search rules in
    found ∙ (has_right c.args.number left n right (subst Rising whole c.requires) lt ∙ ap (has c.args.number) (sym whole))

pub returns-then-number-deref : goal.returns-then-number-deref
returns-then-number-deref t c =
    let left = numbers c.in-Fork.root.value.left in
    let right = numbers c.in-Fork.root.value.right in
    let n = c.in-Fork.root.value.number in
    let whole : numbers c.args.tree.now ≡ left ++ n ∷ right = search rules in
    let lt : c.args.number < n = search rules in
    let found : c.is_there-then-number-deref.result ≡ has c.args.number left = search rules in
    found ∙ (has_left c.args.number left n right (subst Rising whole c.requires) lt ∙ ap (has c.args.number) (sym whole))

pub returns-else-number-deref : goal.returns-else-number-deref
returns-else-number-deref t c =
    let left = numbers c.in-Fork.root.value.left in
    let right = numbers c.in-Fork.root.value.right in
    let n = c.in-Fork.root.value.number in
    let whole : numbers c.args.tree.now ≡ left ++ n ∷ right = search rules in
    let is : n ≡ c.args.number = search rules in
    has_here c.args.number left n right (subst Rising whole c.requires) is ∙ ap (has c.args.number) (sym whole)
