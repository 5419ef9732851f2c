-- One key more is noted.
use Rattle.std.proofs.Common.{◌≡◌, ◌+◌, ◌++◌, ◌∷◌, [], take, ◌∙◌, ap, sym, subst}
use Rattle.std.proofs.lemmas.List.{take_more}
use Rattle.amqp_values.specs.Values.{SeesAll}
use Rattle.amqp_values.proofs.Noting.{sees_more}
use Rattle.amqp_values.proofs.keys.add_all.Goals as goal

pub loop-pair-preserved : goal.loop-pair-preserved
loop-pair-preserved c = λ none.
    let pair = c.pair-item.result in
    subst (SeesAll c.add_key.new.seen.keys)
    (ap (λ x. take c.loop-pair.pair-index c.args.pairs.now ++ x ∷ []) c.pair-item.is ∙ sym (take_more c.args.pairs.now c.loop-pair.pair-index pair c.loop-pair-test.true))
    (sees_more c.loop-pair.seen.keys c.add_key.new.seen.keys (take c.loop-pair.pair-index c.args.pairs.now) pair.key pair.value (c.loop-pair.invariant none) c.in_ok-add_key.ensures.added)
