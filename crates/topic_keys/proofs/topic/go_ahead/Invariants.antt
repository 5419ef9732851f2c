-- So far each word was taken.
use Rattle.std.proofs.Common.{length}
use Rattle.std.specs.Option.{option_copied}
use Rattle.topic_keys.specs.Ahead.{left}
use Rattle.topic_keys.proofs.Rests.{Going}
use Rattle.topic_keys.proofs.topic.go_ahead.Given as goal

abbrev pub invariant-loop-patterns : goal.invariant-loop-patterns
invariant-loop-patterns l = Going (left (option_copied l.fn.patterns)) (left (option_copied l.fn.words)) (left (option_copied l.patterns)) (left (option_copied l.words))

abbrev pub decreases-loop-patterns : goal.decreases-loop-patterns
decreases-loop-patterns l = length (left (option_copied l.patterns))
