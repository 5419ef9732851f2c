-- The first dot is where a search finds it.
use Rattle.std.proofs.Common.{◌≡◌, ℕ, ◌+◌, ◌-◌, List, ◌∷◌, sym, ap, ◌∙◌, arith, length, get_or, take, drop}
use Rattle.std.proofs.lemmas.Bool.{false_from_ne_true}
use Rattle.std.proofs.lemmas.Grind.{common_steps}
use Rattle.std.proofs.lemmas.List.Sums.{position_or_len_is}
use Rattle.std.proofs.lemmas.List.{get_or_default}
use Rattle.std.proofs.lemmas.List.Splits.{slice_split_first, slice_split_none}
use Rattle.std.specs.List.{position_or_len}
use Rattle.topic_keys.specs.Topics.{is_dot, words}
use Rattle.topic_keys.proofs.topic.first_word.Goals as goal

pub returns-in-Some : goal.returns-in-Some
returns-in-Some c =
    let text = c.args.text.now in
    let n = c.in-Some.dot in
    let at : position_or_len is_dot text ≡ n = position_or_len_is is_dot text n 0 (omega (arith, c.in-Some.ensures.0.high))
    (λ k lt. false_from_ne_true (is_dot (get_or text k 0)) (c.in-Some.ensures.0.before k (omega arith) lt)) (λ _. c.in-Some.ensures.1) in
    let rest : take (length text - (n + 1)) (drop (n + 1) text) ≡ drop (n + 1) text = grind (arith, common_steps) in
    slice_split_first is_dot text 0 (omega (arith, at, c.in-Some.ensures.0.high))
    ∙ ap (λ (m : ℕ). take m text ∷ words (drop (m + 1) text)) at ∙ ap (λ (xs : List ℕ). take n text ∷ words xs) (sym rest)

pub returns-in-None : goal.returns-in-None
returns-in-None c =
    let text = c.args.text.now in
    slice_split_none is_dot text (λ k d lt. false_from_ne_true (is_dot (get_or text k d)) (λ t. c.in-None.ensures k (omega arith) lt (ap is_dot (get_or_default text k 0 d lt) ∙ t)))
