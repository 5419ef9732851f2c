-- The commands of the class exchange: their conditions in order, and what they do (AMQP 0-10, "exchange").
use Rattle.std.specs.Prelude.{ℕ, ◌&&◌, ◌||◌, nat_lt, nat_le, not, Bool, true, false, if◌then◌else◌, bytes_eq, List, [], ◌∷◌, length, codes, Option, None, Some, is_some}
use Rattle.amqp_values.specs.declared.value.Value.{Value}
use Rattle.amqp_terms.specs.declared.result.ResultValue.{ResultValue}
use Rattle.amqp_terms.specs.declared.result.ResultValue.TheVariants.{ExchangeQueryResult, ExchangeBoundResult}
use Rattle.exchange_core.specs.declared.marks.BoundBits.{BoundBits}
use Rattle.exchange_core.specs.declared.marks.ExchangeMarks.{ExchangeMarks}
use Rattle.exchange_core.specs.declared.marks.Kind.{Kind}
use Rattle.exchange_core.specs.declared.marks.Kind.TheVariants as kinds
use Rattle.exchange_core.specs.Exchanges as exchanges
use Rattle.queue_core.specs.Queues as queues
use Rattle.broker_core.specs.declared.answer.Stop.{Stop}
use Rattle.broker_core.specs.declared.answer.Stop.TheVariants.{Skip, Refuse}
use Rattle.broker_core.specs.declared.edit.Edit.TheVariants.{PlaceExchange}
use Rattle.broker_core.specs.State.{Stand, Planned, nothing, only, exchange_of, exchange_marks, queue_marks, is_foreign}
use Rattle.broker_core.specs.Verdict.{first_of, is_empty, is_reserved}

-- the words of the types
abbrev pub kind_name : Kind → List ℕ
kind_name kinds.Direct = codes "direct"
kind_name kinds.Fanout = codes "fanout"
kind_name kinds.Topic = codes "topic"
kind_name kinds.Headers = codes "headers"

abbrev pub kind_named : List ℕ → Option Kind
kind_named word =
    if bytes_eq word (codes "direct") then Some kinds.Direct
    else if bytes_eq word (codes "fanout") then Some kinds.Fanout
    else if bytes_eq word (codes "topic") then Some kinds.Topic
    else if bytes_eq word (codes "headers") then Some kinds.Headers
    else None

-- it is of another type than the word says
abbrev pub is_other_kind : List ℕ → Option ExchangeMarks → Bool
is_other_kind word None = false
is_other_kind word (Some marks) = not (bytes_eq (kind_name marks.kind) word)

-- an alternate exchange is given, and isn't its own
abbrev pub has_other_alternate : List ℕ → Option ExchangeMarks → Bool
has_other_alternate alternate None = false
has_other_alternate alternate (Some marks) = not (is_empty alternate) && not (bytes_eq marks.alternate alternate)

-- an alternate exchange is given, and isn't there
abbrev pub lacks_alternate : List ℕ → Stand → Bool
lacks_alternate alternate s = not (is_empty alternate) && not (is_some (exchange_marks alternate s))

-- ---- exchange.declare

abbrev pub declare_passive_stop : List ℕ → List ℕ → Stand → Option Stop
declare_passive_stop name word s =
    first_of
    ((not (is_some (exchange_marks name s)), Refuse 404)
    ∷ (not (is_empty word) && is_other_kind word (exchange_marks name s), Refuse 530)
    ∷ [])

abbrev pub declare_stop : List ℕ → List ℕ → List ℕ → Stand → Option Stop
declare_stop name word alternate s =
    first_of
    ((is_empty name, Refuse 542)
    ∷ (is_other_kind word (exchange_marks name s) || has_other_alternate alternate (exchange_marks name s), Refuse 530)
    ∷ (is_some (exchange_marks name s), Skip)
    ∷ (is_reserved name, Refuse 530)
    ∷ (not (is_some (kind_named word)), Refuse 404)
    ∷ (lacks_alternate alternate s, Refuse 404)
    ∷ (nat_le 4096 (length s.exchanges.entries), Refuse 506)
    ∷ [])

abbrev pub declared : List ℕ → Option Kind → Bool → Bool → List ℕ → Option Value → Planned
declared name None durable auto_delete alternate arguments = nothing
declared name (Some kind) durable auto_delete alternate arguments =
    only (PlaceExchange name (record { kind = kind; durable = durable; auto_delete = auto_delete; alternate = alternate; arguments = arguments }))

-- ---- exchange.delete

abbrev pub is_used : List ℕ → Stand → Bool
is_used name s = nat_lt 0 (length (exchanges.rows_in (exchange_of name s) s.exchanges.rows))

-- a queue or an exchange has it as its alternate exchange
abbrev pub is_alternate : List ℕ → Stand → Bool
is_alternate name s = queues.has_alternate name s.queues.entries || exchanges.has_alternate name s.exchanges.entries

abbrev pub delete_stop : List ℕ → Bool → Stand → Option Stop
delete_stop name if_unused s =
    first_of
    ((is_empty name, Refuse 542)
    ∷ (is_reserved name, Refuse 530)
    ∷ (not (is_some (exchange_marks name s)), Refuse 404)
    ∷ (is_alternate name s, Refuse 530)
    ∷ (if_unused && is_used name s, Refuse 406)
    ∷ [])

-- ---- exchange.query

abbrev pub query_result : Option ExchangeMarks → ResultValue
query_result None = ExchangeQueryResult None false true None
query_result (Some marks) = ExchangeQueryResult (Some (kind_name marks.kind)) marks.durable false marks.arguments

-- ---- exchange.bind and exchange.unbind

-- the queue is bound to the exchange with the key
abbrev pub is_bound : List ℕ → List ℕ → List ℕ → Stand → Bool
is_bound exchange queue key s = exchanges.is_there (exchange_of exchange s) queue key s.exchanges.rows

abbrev pub bind_stop : ℕ → List ℕ → List ℕ → List ℕ → Stand → Option Stop
bind_stop session exchange queue key s =
    first_of
    ((is_empty exchange, Refuse 530)
    ∷ (not (is_some (queue_marks queue s)), Refuse 404)
    ∷ (not (is_some (exchange_marks exchange s)), Refuse 404)
    ∷ (is_foreign session (queue_marks queue s), Refuse 405)
    ∷ (is_bound exchange queue key s, Skip)
    ∷ (nat_le 65536 (length s.exchanges.rows), Refuse 506)
    ∷ [])

abbrev pub unbind_stop : List ℕ → List ℕ → List ℕ → Stand → Option Stop
unbind_stop exchange queue key s =
    first_of
    ((not (is_some (queue_marks queue s)), Refuse 404)
    ∷ (not (is_some (exchange_marks exchange s)), Refuse 404)
    ∷ (not (is_bound exchange queue key s), Refuse 404)
    ∷ [])

-- ---- exchange.bound

abbrev missing_queue : Bool → BoundBits
missing_queue no_exchange = record { exchange_not_found = no_exchange; queue_not_found = true; queue_not_matched = false; key_not_matched = false; args_not_matched = false }

-- what is named and isn't there is told alone
abbrev pub bound_bits : List ℕ → List ℕ → Option (List ℕ) → Option Value → Stand → BoundBits
bound_bits exchange queue key arguments s =
    if not (is_empty queue) && not (is_some (queue_marks queue s))
    then missing_queue (not (is_empty exchange) && not (is_some (exchange_marks exchange s)))
    else exchanges.bound_bits exchange (exchange_of exchange s) queue key arguments s.exchanges.rows

abbrev pub bound_result : BoundBits → ResultValue
bound_result b = ExchangeBoundResult b.exchange_not_found b.queue_not_found b.queue_not_matched b.key_not_matched b.args_not_matched
