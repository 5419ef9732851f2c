-- Along each order the cuts rise.
use Rattle.std.proofs.Common.{◌≡◌, ◌≤◌, [], true, refl, sym, ap, ◌∙◌}
use Rattle.std.proofs.lemmas.Cmp.{then_total, nat_cmp_total, nat_list_cmp_total}
use Rattle.std.specs.Cmp.{IsTotalOrder, on_total}
use Rattle.std.specs.Ordering.{is_le, is_eq, ordering_index, ordering_then, then_cmp, on}
use Rattle.std.specs.declared.cmp.Ordering.{Ordering}
use Rattle.std.specs.declared.cmp.Ordering.TheVariants.{Less, Equal, Greater}
use Rattle.std.proofs.lemmas.Bool.{true≢false}
use Rattle.binding_table.specs.declared.order.By.{By}
use Rattle.binding_table.specs.declared.order.By.TheVariants as by
use Rattle.binding_table.specs.declared.order.Cut.{Cut}
use Rattle.binding_table.specs.declared.order.Cut.TheVariants as cut
use Rattle.binding_table.specs.declared.row.Row.{Row}
use Rattle.binding_table.specs.Spots.{Spot, spot, on_exchange, on_queue, on_key, queue_order, key_order, order, side}
use Rattle.sorted_map.proofs.Sorting.{Rises, no_later}
use Rattle.sorted_map.proofs.Changing.{behind_equal}

less_le : (o : Ordering) → o ≡ Less → is_le o ≡ true
less_le o e = ap is_le e

first_le : (o p : Ordering) → is_le (ordering_then o p) ≡ true → is_le o ≡ true
first_le Less p q = refl
first_le Equal p q = refl
first_le Greater p q = q

exchange_total : IsTotalOrder on_exchange
exchange_total = on_total (λ (s : Spot). s.exchange) nat_cmp_total

queue_total : IsTotalOrder on_queue
queue_total = on_total (λ (s : Spot). s.queue) nat_list_cmp_total

key_total : IsTotalOrder on_key
key_total = on_total (λ (s : Spot). s.key) nat_list_cmp_total

pub order_total : (b : By) → IsTotalOrder (order b)
order_total by.Queue = then_total (then_total exchange_total queue_total) key_total
order_total by.Key = then_total (then_total exchange_total key_total) queue_total

rise : (b : By) (c : Cut) (s t : Spot) → order b s t ≡ Less → ordering_index (side b c s) ≤ ordering_index (side b c t)
rise by.Queue (cut.Exchange n) s t e = no_later on_exchange exchange_total (record { exchange = n; queue = []; key = [] }) s t (first_le (on_exchange s t) (on_queue s t) (first_le (then_cmp on_exchange on_queue s t) (on_key s t) (less_le (queue_order s t) e)))
rise by.Queue (cut.First n name) s t e = no_later (then_cmp on_exchange on_queue) (then_total exchange_total queue_total) (record { exchange = n; queue = name.now; key = [] }) s t (first_le (then_cmp on_exchange on_queue s t) (on_key s t) (less_le (queue_order s t) e))
rise by.Queue (cut.Both n name other) s t e = no_later queue_order (order_total by.Queue) (record { exchange = n; queue = name.now; key = other.now }) s t (less_le (queue_order s t) e)
rise by.Key (cut.Exchange n) s t e = no_later on_exchange exchange_total (record { exchange = n; queue = []; key = [] }) s t (first_le (on_exchange s t) (on_key s t) (first_le (then_cmp on_exchange on_key s t) (on_queue s t) (less_le (key_order s t) e)))
rise by.Key (cut.First n name) s t e = no_later (then_cmp on_exchange on_key) (then_total exchange_total key_total) (record { exchange = n; queue = []; key = name.now }) s t (first_le (then_cmp on_exchange on_key s t) (on_queue s t) (less_le (key_order s t) e))
rise by.Key (cut.Both n name other) s t e = no_later key_order (order_total by.Key) (record { exchange = n; queue = other.now; key = name.now }) s t (less_le (key_order s t) e)

pub cut_rises : {A : Type 0} (b : By) (c : Cut) → Rises (on spot (order b)) (λ (r : Row A). side b c (spot r))
cut_rises b c x y e = rise b c (spot x) (spot y) e

pub row_total : {A : Type 0} (b : By) → IsTotalOrder (on (spot {A = A}) (order b))
row_total b = on_total spot (order_total b)

-- no two rows are at one spot
pub spot_apart : {A : Type 0} (s : Spot) (a b : Row A) → queue_order (spot a) (spot b) ≡ Less → queue_order (spot a) s ≡ Equal → queue_order (spot b) s ≡ Equal → ⊥
spot_apart s a b lt e f = true≢false (ap is_eq (sym f ∙ behind_equal queue_order (order_total by.Queue) (spot a) (spot b) s lt e))

-- the order of a table
pub queues_total : {A : Type 0} → IsTotalOrder (on (spot {A = A}) queue_order)
queues_total = row_total by.Queue
