-- Exchanges by name, and their bindings.
use Rattle.std.specs.Prelude.{◌≡◌, ℕ, ◌&&◌, ◌||◌, not, Bool, true, false, if◌then◌else◌, bytes_eq, List, [], ◌∷◌, ◌++◌, map, filter, Option, None, Some, is_some}
use Rattle.std.specs.Borrow.{Bor}
use Rattle.std.specs.List.{list_any}
use Rattle.amqp_values.specs.declared.value.Value.{Value}
use Rattle.name_map.specs.Named as named
use Rattle.named_lists.specs.Lists.{lists_of, times}
use Rattle.binding_table.specs.declared.row.Binding.{Binding}
use Rattle.binding_table.specs.Spots.{Spot}
use Rattle.binding_table.specs.Rows.{is_of, is_of_queue, find, put, out}
use Rattle.exchange_core.specs.declared.marks.BoundBits.{BoundBits}
use Rattle.exchange_core.specs.declared.marks.ExchangeMarks.{ExchangeMarks}
use Rattle.exchange_core.specs.declared.marks.Kind.{Kind}
use Rattle.exchange_core.specs.declared.marks.Kind.TheVariants as kinds
use Rattle.exchange_core.specs.Routes.{Rowed, queues_of, is_asked, has_entry, has_none}

abbrev pub Entry : Type 0
Entry = List ℕ × (ExchangeMarks × ℕ)

-- the exchanges by name, each with its marks and its number; the bindings by exchange number, queue and key; for how many
-- more exchanges and bindings there is room
pub record Exchanged : Type 0 where
  pub entries : List Entry
  pub rows : List Rowed
  pub room : ℕ
  pub spare : ℕ

abbrev pub marks_in : Option (ExchangeMarks × ℕ) → Option ExchangeMarks
marks_in None = None
marks_in (Some exchange) = Some exchange.0

-- the bindings of an exchange, where it is there
abbrev pub rows_in : Option (ExchangeMarks × ℕ) → List Rowed → List Rowed
rows_in None rows = []
rows_in (Some exchange) rows = filter (is_of exchange.1) rows

-- the bindings of the others
abbrev pub rows_without : Option (ExchangeMarks × ℕ) → List Rowed → List Rowed
rows_without None rows = rows
rows_without (Some exchange) rows = filter (λ r. not (is_of exchange.1 r)) rows

abbrev pub names_of : List Entry → List (List ℕ)
names_of [] = []
names_of (e ∷ es) = e.0 ∷ names_of es

-- an exchange has this alternate exchange
abbrev pub has_alternate : List ℕ → List Entry → Bool
has_alternate exchange [] = false
has_alternate exchange (e ∷ es) = bytes_eq e.1.0.alternate exchange || has_alternate exchange es

-- where an exchange's binding of a queue with a key stands
abbrev pub spot_of : ExchangeMarks × ℕ → List ℕ → List ℕ → Spot
spot_of exchange queue key = record { exchange = exchange.1; queue = queue; key = key }

-- the queues that a message goes to, in order
abbrev pub routed : Option (ExchangeMarks × ℕ) → List ℕ → Option Value → List Rowed → List (List ℕ)
routed None key asked rows = []
routed (Some exchange) key asked rows = queues_of exchange.0.kind key asked (filter (is_of exchange.1) rows)

-- what is no exchange's number has no bindings
abbrev pub OwnRows : List Entry → List Rowed → Type 0
OwnRows entries rows = (n : ℕ) → times n (lists_of entries) ≡ 0 → filter (is_of n) rows ≡ []

-- ---- exchange.bound

-- the bindings of an exchange that count where a queue is given, by its name
abbrev pub counting : ℕ → List ℕ → List Rowed → List Rowed
counting n [] rows = filter (is_of n) rows
counting n (octet ∷ octets) rows = filter (is_of_queue n (octet ∷ octets)) rows

abbrev is_given : List ℕ → Bool
is_given [] = false
is_given (octet ∷ octets) = true

-- what is asked for and isn't there, of the bindings that count
abbrev pub bits : List ℕ → Option (List ℕ) → Option Value → List Rowed → BoundBits
bits queue key arguments rows = record {
  exchange_not_found = false;
  queue_not_found = false;
  queue_not_matched = is_given queue && not (list_any (is_asked None None) rows);
  key_not_matched = is_some key && not (list_any (is_asked key None) rows);
  args_not_matched = has_entry arguments && not (list_any (is_asked key arguments) rows);
}

abbrev missing : BoundBits
missing = record { exchange_not_found = true; queue_not_found = false; queue_not_matched = false; key_not_matched = false; args_not_matched = false }

-- the bits of exchange.bound; the nameless exchange is never missing and has no binding
abbrev pub bound_bits : List ℕ → Option (ExchangeMarks × ℕ) → List ℕ → Option (List ℕ) → Option Value → List Rowed → BoundBits
bound_bits name (Some exchange) queue key arguments rows = bits queue key arguments (counting exchange.1 queue rows)
bound_bits [] None queue key arguments rows = bits queue key arguments []
bound_bits (octet ∷ octets) None queue key arguments rows = missing

-- ---- bindings put in and taken out

-- with a binding; one that is there stays as it is
abbrev pub with_binding : Option (ExchangeMarks × ℕ) → Binding (Option Value) → List Rowed → List Rowed
with_binding None binding rows = rows
with_binding (Some exchange) binding rows =
    if is_some (find (spot_of exchange binding.queue binding.key) rows) then rows else put (record { exchange = exchange.1; binding = binding }) rows

abbrev pub is_there : Option (ExchangeMarks × ℕ) → List ℕ → List ℕ → List Rowed → Bool
is_there None queue key rows = false
is_there (Some exchange) queue key rows = is_some (find (spot_of exchange queue key) rows)

abbrev pub without_binding : Option (ExchangeMarks × ℕ) → List ℕ → List ℕ → List Rowed → List Rowed
without_binding None queue key rows = rows
without_binding (Some exchange) queue key rows = out (spot_of exchange queue key) rows

-- it goes with its last binding, and this was it
abbrev pub ends : Option (ExchangeMarks × ℕ) → List ℕ → List ℕ → List Rowed → Bool
ends None queue key rows = false
ends (Some exchange) queue key rows =
    is_there (Some exchange) queue key rows && (exchange.0.auto_delete && has_none (filter (is_of exchange.1) (out (spot_of exchange queue key) rows)))

abbrev pub after_unbinding : List ℕ → Option (ExchangeMarks × ℕ) → List ℕ → List ℕ → List Rowed → List Entry → List Entry
after_unbinding name exchange queue key rows entries = if ends exchange queue key rows then named.out name entries else entries

abbrev pub is_other : List ℕ → Rowed → Bool
is_other queue row = not (bytes_eq row.binding.queue queue)

-- it goes with its last binding, and all that it has are of a queue
abbrev pub goes : List ℕ → List Rowed → Entry → Bool
goes queue rows e = e.1.0.auto_delete && (not (has_none (filter (is_of_queue e.1.1 queue) rows)) && has_none (filter (is_of e.1.1) (filter (is_other queue) rows)))

abbrev pub stays : List ℕ → List Rowed → Entry → Bool
stays queue rows e = not (goes queue rows e)

-- ---- all bindings

abbrev pub pair_of : List ℕ → Rowed → List ℕ × Binding (Option Value)
pair_of name row = (name, row.binding)

-- each exchange's bindings with its name
abbrev pub pairs_of : List Entry → List Rowed → List (List ℕ × Binding (Option Value))
pairs_of [] rows = []
pairs_of (e ∷ es) rows = map (pair_of e.0) (filter (is_of e.1.1) rows) ++ pairs_of es rows

-- what is left of the bindings of an exchange at hand, and those of the exchanges behind it
abbrev pub left_of : Option (Bor (List ℕ) × List Rowed) → List Entry → List Rowed → List (List ℕ × Binding (Option Value))
left_of None entries rows = pairs_of entries rows
left_of (Some hand) entries rows = map (pair_of hand.0.now) hand.1 ++ pairs_of entries rows

-- ---- the exchanges that are there from the start

abbrev pub first_marks : Kind → ExchangeMarks
first_marks kind = record { kind = kind; durable = true; auto_delete = false; alternate = []; arguments = None }

-- amq.direct, amq.fanout, amq.match and amq.topic
abbrev pub IsFirst : List Entry → Type 0
IsFirst entries =
    (a b c d : ℕ)
    × (entries
    ≡ ((97 ∷ 109 ∷ 113 ∷ 46 ∷ 100 ∷ 105 ∷ 114 ∷ 101 ∷ 99 ∷ 116 ∷ []), (first_marks kinds.Direct, a))
    ∷ ((97 ∷ 109 ∷ 113 ∷ 46 ∷ 102 ∷ 97 ∷ 110 ∷ 111 ∷ 117 ∷ 116 ∷ []), (first_marks kinds.Fanout, b))
    ∷ ((97 ∷ 109 ∷ 113 ∷ 46 ∷ 109 ∷ 97 ∷ 116 ∷ 99 ∷ 104 ∷ []), (first_marks kinds.Headers, c))
    ∷ ((97 ∷ 109 ∷ 113 ∷ 46 ∷ 116 ∷ 111 ∷ 112 ∷ 105 ∷ 99 ∷ []), (first_marks kinds.Topic, d))
    ∷ [])
