-- A text has a word.
use Rattle.std.proofs.Common.{◌<◌, ℕ, sym, ap, subst, length, arith}
use Rattle.std.specs.Option.{option_copied}
use Rattle.std.proofs.lemmas.List.Splits.{length-slice_split}
use Rattle.topic_keys.specs.Topics.{is_dot}
use Rattle.topic_keys.specs.Ahead.{left}
use Rattle.topic_keys.proofs.topic.end_of.Goals as goal

pub returns-in-Some : goal.returns-in-Some
returns-in-Some c =
    subst (λ (n : ℕ). 0 < n) (sym (ap (λ o. length (left (option_copied o))) c.in-Some.is)) (omega (arith, length-slice_split is_dot c.in-Some.field-0.now))
