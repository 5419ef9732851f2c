-- A pattern that matches what is left matches some of it.
use Rattle.std.proofs.Common.{◌≡◌, ◌∙◌, true, sym, subst}
use Rattle.std.specs.Option.{option_copied}
use Rattle.topic_keys.specs.Topics.{matches}
use Rattle.topic_keys.specs.Ahead.{left, AheadIs}
use Rattle.topic_keys.proofs.Rests.{ends_behind}
use Rattle.topic_keys.proofs.topic.behind_hash.Goals as goal

pub returns-in-Ends : goal.returns-in-Ends
returns-in-Ends c =
    let patterns = left (option_copied c.loop-patterns.patterns) in
    let words = left (option_copied c.loop-patterns.words) in
    let ends : matches patterns words ≡ true =
    subst (λ step. AheadIs step patterns words (left (option_copied c.go_ahead-step.result.1)) (left (option_copied c.go_ahead-step.result.2))) c.in-Ends.is c.go_ahead-step.ensures in
    sym (c.loop-patterns.invariant ∙ ends_behind patterns words ends)
