-- A container goes one level down; within a level each call is of a lower rank. Items so far, and those to come.
use Rattle.std.proofs.Common.{◌≡◌, ◌≤◌, [], ◌-◌, ◌*◌, ◌+◌, length}
use Rattle.octet_reading.specs.Reading.{many_at}
use Rattle.amqp_values.specs.Values.{item_at, pair_at, value_at, SeesLong}
use Rattle.amqp_values.proofs.read.+reading.Given as goal

abbrev pub decreases-container_of : goal.decreases-container_of
decreases-container_of l = 7 * l.levels

abbrev pub decreases-value_of : goal.decreases-value_of
decreases-value_of l = 7 * l.levels + 1

abbrev pub decreases-item_of : goal.decreases-item_of
decreases-item_of l = 7 * l.levels + 2

abbrev pub decreases-pair_of : goal.decreases-pair_of
decreases-pair_of l = 7 * l.levels + 3

abbrev pub decreases-items_of : goal.decreases-items_of
decreases-items_of l = 7 * l.levels + 4

abbrev pub decreases-values_of : goal.decreases-values_of
decreases-values_of l = 7 * l.levels + 4

abbrev pub decreases-pairs_of : goal.decreases-pairs_of
decreases-pairs_of l = 7 * l.levels + 4

abbrev pub decreases-array_of : goal.decreases-array_of
decreases-array_of l = 7 * l.levels + 5

abbrev pub decreases-list_of : goal.decreases-list_of
decreases-list_of l = 7 * l.levels + 5

abbrev pub decreases-map_of : goal.decreases-map_of
decreases-map_of l = 7 * l.levels + 5

abbrev pub decreases-content_of : goal.decreases-content_of
decreases-content_of l = 7 * l.levels + 6

abbrev pub invariant-items_of-loop : goal.invariant-items_of-loop
invariant-items_of-loop l =
    (many_at (λ front. item_at (value_at l.levels)) l.items (l.count - l.counter) l.from l.rest ≡ many_at (λ front. item_at (value_at l.levels)) [] l.count l.from l.octets)
    × (length l.rest ≤ length l.octets)

abbrev pub invariant-values_of-loop : goal.invariant-values_of-loop
invariant-values_of-loop l =
    (many_at (λ front. value_at l.levels l.code) l.items (l.count - l.counter) l.from l.rest ≡ many_at (λ front. value_at l.levels l.code) [] l.count l.from l.octets)
    × (length l.rest ≤ length l.octets)

abbrev pub invariant-pairs_of-loop : goal.invariant-pairs_of-loop
invariant-pairs_of-loop l =
    (many_at (pair_at (value_at l.levels)) l.pairs (l.count - l.counter) l.from l.rest ≡ many_at (pair_at (value_at l.levels)) [] l.count l.from l.octets)
    × (SeesLong l.seen.keys l.pairs × (length l.rest ≤ length l.octets))
