-- Where a binding stands: its exchange, its queue and its key, and the two orders of these.
use Rattle.std.specs.Prelude.{ℕ}
use Rattle.std.specs.Ordering.{nat_cmp, then_cmp, ordering_then}
use Rattle.std.specs.declared.cmp.Ordering.{Ordering}
use Rattle.std.specs.Cmp.Lexicographic.{slice_cmp}
use Rattle.std.specs.Prelude.{List}
use Rattle.binding_table.specs.declared.order.By.{By}
use Rattle.binding_table.specs.declared.order.By.TheVariants as by
use Rattle.binding_table.specs.declared.order.Cut.{Cut}
use Rattle.binding_table.specs.declared.order.Cut.TheVariants as cut
use Rattle.binding_table.specs.declared.row.Row.{Row}

pub record Spot : Type 0 where
  pub exchange : ℕ
  pub queue : List ℕ
  pub key : List ℕ

abbrev pub spot : {A : Type 0} → Row A → Spot
spot row = record { exchange = row.exchange; queue = row.binding.queue; key = row.binding.key }

abbrev pub on_exchange : Spot → Spot → Ordering
on_exchange a b = nat_cmp a.exchange b.exchange

abbrev pub on_queue : Spot → Spot → Ordering
on_queue a b = slice_cmp nat_cmp a.queue b.queue

abbrev pub on_key : Spot → Spot → Ordering
on_key a b = slice_cmp nat_cmp a.key b.key

-- by exchange, then by queue, then by key
abbrev pub queue_order : Spot → Spot → Ordering
queue_order = then_cmp (then_cmp on_exchange on_queue) on_key

-- by exchange, then by key, then by queue
abbrev pub key_order : Spot → Spot → Ordering
key_order = then_cmp (then_cmp on_exchange on_key) on_queue

abbrev pub order : By → Spot → Spot → Ordering
order by.Queue = queue_order
order by.Key = key_order

abbrev pub first_of : By → Spot → List ℕ
first_of by.Queue s = s.queue
first_of by.Key s = s.key

abbrev pub second_of : By → Spot → List ℕ
second_of by.Queue s = s.key
second_of by.Key s = s.queue

-- on which side of a cut a spot is
abbrev pub side : By → Cut → Spot → Ordering
side b (cut.Exchange n) s = nat_cmp s.exchange n
side b (cut.First n name) s = ordering_then (nat_cmp s.exchange n) (slice_cmp nat_cmp (first_of b s) name.now)
side b (cut.Both n name other) s = ordering_then (ordering_then (nat_cmp s.exchange n) (slice_cmp nat_cmp (first_of b s) name.now)) (slice_cmp nat_cmp (second_of b s) other.now)
