-- A struct with fields holds none that has some. The fields so far, and those to come.
use Rattle.std.proofs.Common.{◌≡◌, ◌≤◌, ◌+◌, Bool, true, false, ℕ, [], length, drop}
use Rattle.amqp_packed.specs.Reading.{slots_at, reader}
use Rattle.amqp_packed.proofs.read.+fields.Given as goal

-- how deep a field may still go
abbrev pub depth : Bool → ℕ
depth true = 0
depth false = 10

abbrev pub decreases-field_of : goal.decreases-field_of
decreases-field_of l = depth l.nested

abbrev pub decreases-slot_of : goal.decreases-slot_of
decreases-slot_of l = depth l.nested + 1

abbrev pub decreases-slots_of : goal.decreases-slots_of
decreases-slots_of l = depth l.nested + 2

abbrev pub decreases-packed_of : goal.decreases-packed_of
decreases-packed_of l = depth l.nested + 3

abbrev pub decreases-xid_in : goal.decreases-xid_in
decreases-xid_in l = 4

abbrev pub decreases-reply_in : goal.decreases-reply_in
decreases-reply_in l = 4

abbrev pub decreases-xid_field_of : goal.decreases-xid_field_of
decreases-xid_field_of l = 5

abbrev pub decreases-reply_field_of : goal.decreases-reply_field_of
decreases-reply_field_of l = 5

abbrev pub invariant-slots_of-loop-kind : goal.invariant-slots_of-loop-kind
invariant-slots_of-loop-kind l =
    (slots_at (reader l.nested) (drop l.kind-index l.table) l.flags l.fields l.rest ≡ slots_at (reader l.nested) l.table l.all [] l.octets) × (length l.rest ≤ length l.octets)
