-- The rest has the key where all have it.
use Rattle.std.proofs.Common.{◌≡◌, length, map}
use Rattle.std.specs.Prelude.{bytes_eq}
use Rattle.std.specs.List.{list_any}
use Rattle.amqp_values.specs.declared.value.Pair.{Pair}
use Rattle.amqp_values.specs.Spelling.{Told, told_pair}
use Rattle.amqp_values.proofs.fine.has.Given as goal

abbrev pub invariant-loop-first : goal.invariant-loop-first
invariant-loop-first l =
    list_any (λ (q : Pair Told). bytes_eq q.key l.key) (map told_pair l.rest) ≡ list_any (λ (q : Pair Told). bytes_eq q.key l.key) (map told_pair l.pairs)

abbrev pub decreases-loop-first : goal.decreases-loop-first
decreases-loop-first l = length l.rest
