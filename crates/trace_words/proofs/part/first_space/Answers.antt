-- The first space is where a search finds it.
use Rattle.std.proofs.Common.{◌≡◌, eqb, false, sym, arith, length, get_or}
use Rattle.std.proofs.lemmas.Bool.{false_from_ne_true}
use Rattle.std.proofs.lemmas.List.Sums.{position_or_len_is}
use Rattle.trace_words.proofs.part.first_space.Goals as goal

pub returns-in-Some : goal.returns-in-Some
returns-in-Some c =
    let line = c.args.line.now in
    let n = c.in-Some.index in
    sym (position_or_len_is (λ x. eqb x 32) line n 0 (omega (arith, c.in-Some.ensures.0.high))
    (λ k lt. false_from_ne_true (eqb (get_or line k 0) 32) (c.in-Some.ensures.0.before k (omega arith) lt)) (λ _. c.in-Some.ensures.1))

pub returns-in-None : goal.returns-in-None
returns-in-None c =
    let line = c.args.line.now in
    sym (position_or_len_is (λ x. eqb x 32) line (length line) 0 (omega arith)
    (λ k lt. false_from_ne_true (eqb (get_or line k 0) 32) (c.in-None.ensures k (omega arith) lt)) (λ lt. absurd (omega arith)))
