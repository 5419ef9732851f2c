-- What is left decides.
use Rattle.std.proofs.Common.{◌≡◌, ◌+◌, length}
use Rattle.std.specs.Option.{option_copied}
use Rattle.topic_keys.specs.Topics.{behind, matches}
use Rattle.topic_keys.specs.Ahead.{left}
use Rattle.topic_keys.proofs.topic.behind_hash.Given as goal

abbrev pub invariant-loop-patterns : goal.invariant-loop-patterns
invariant-loop-patterns l =
    behind (matches (left (option_copied l.fn.patterns))) (left (option_copied l.fn.words)) ≡ behind (matches (left (option_copied l.patterns))) (left (option_copied l.words))

abbrev pub decreases-loop-patterns : goal.decreases-loop-patterns
decreases-loop-patterns l = length (left (option_copied l.patterns)) + length (left (option_copied l.words))
