-- One item more.
use Rattle.std.proofs.Common.{◌≡◌, ◌+◌, ◌++◌, ◌∷◌, [], map, take, sym, ap, ◌∙◌, arith}
use Rattle.std.proofs.lemmas.List.{take_more}
use Rattle.amqp_values.specs.Spelling.{told, told_pair, deepest, deepest_pair}
use Rattle.amqp_values.proofs.Items.{deepest_more, deepest_pair_more}
use Rattle.amqp_values.proofs.fine.+levels.Goals as goal

pub item_levels-loop-item-preserved : goal.item_levels-loop-item-preserved
item_levels-loop-item-preserved t c =
    let items = c.args.items.now in
    let i = c.loop-item.item-index in
    let more : take (i + 1) items ≡ take i items ++ c.item-item.result ∷ [] =
    take_more items i c.item-item.result c.loop-item-test.true ∙ ap (λ x. take i items ++ x ∷ []) (sym c.item-item.is) in
    omega (arith, c.max-most.ensures, c.levels_of.ensures, c.loop-item.invariant, ap (λ xs. deepest (map told xs)) more ∙ deepest_more told (take i items) c.item-item.result)

pub pair_levels-loop-pair-preserved : goal.pair_levels-loop-pair-preserved
pair_levels-loop-pair-preserved t c =
    let pairs = c.args.pairs.now in
    let i = c.loop-pair.pair-index in
    let more : take (i + 1) pairs ≡ take i pairs ++ c.pair-item.result ∷ [] =
    take_more pairs i c.pair-item.result c.loop-pair-test.true ∙ ap (λ x. take i pairs ++ x ∷ []) (sym c.pair-item.is) in
    omega (
      arith,
      c.max-most.ensures,
      c.levels_of.ensures,
      c.loop-pair.invariant,
      ap (λ xs. deepest_pair (map told_pair xs)) more ∙ deepest_pair_more (take i pairs) c.pair-item.result,
    )
