-- Each word that is taken leaves what is left to decide, and so does the first `#`.
use Rattle.std.proofs.Common.{rules, ◌∷◌, ◌∙◌, sym, ap, subst}
use Rattle.std.specs.Option.{option_copied}
use Rattle.topic_keys.specs.Ahead.{left}
use Rattle.topic_keys.proofs.Rests.{Going, goes_on, reaches}
use Rattle.topic_keys.proofs.topic.go_ahead.Goals as goal

pub returns-then-is_hash : goal.returns-then-is_hash
returns-then-is_hash c =
    let all = left (option_copied c.args.patterns) in
    let words = left (option_copied c.args.words) in
    let more = left (option_copied c.loop-patterns.words) in
    let split = ap (λ o. left (option_copied o)) c.in-Some.is ∙ c.first_word.ensures in
    reaches all words c.first_word.result.0.now (left (option_copied c.first_word.result.1)) more (sym c.is_hash.ensures ∙ c.if-is_hash.true)
    (subst (λ ps. Going all words ps more) split c.loop-patterns.invariant)

pub loop-patterns-preserved : goal.loop-patterns-preserved
loop-patterns-preserved c =
    let all = left (option_copied c.args.patterns) in
    let words = left (option_copied c.args.words) in
    let patterns = c.first_word.result.0.now ∷ left (option_copied c.first_word.result.1) in
    let split = ap (λ o. left (option_copied o)) c.in-Some.is ∙ c.first_word.ensures in
    let split2 = ap (λ o. left (option_copied o)) c.in-Some-words.is ∙ c.first_word-in-loop-patterns.ensures in
    goes_on all words c.first_word.result.0.now (left (option_copied c.first_word.result.1)) c.first_word-in-loop-patterns.result.0.now (left (option_copied c.first_word-in-loop-patterns.result.1))
    (sym c.is_hash.ensures ∙ c.if-is_hash.false) (search rules)
    (subst (λ ws. Going all words patterns ws) split2 (subst (λ ps. Going all words ps (left (option_copied c.loop-patterns.words))) split c.loop-patterns.invariant))
