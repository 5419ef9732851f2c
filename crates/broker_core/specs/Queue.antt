-- The commands of the class queue: their conditions in order, and what they do (AMQP 0-10, "queue").
use Rattle.std.specs.Prelude.{ℕ, ◌==◌, ◌&&◌, ◌||◌, nat_le, not, min, Bool, true, false, bytes_eq, List, [], ◌∷◌, length, Option, None, Some, is_some}
use Rattle.amqp_values.specs.declared.value.Value.{Value}
use Rattle.amqp_terms.specs.declared.result.ResultValue.{ResultValue}
use Rattle.amqp_terms.specs.declared.result.ResultValue.TheVariants.{QueueQueryResult}
use Rattle.queue_core.specs.declared.marks.QueueMarks.{QueueMarks}
use Rattle.queue_core.specs.Queues.{counts_in}
use Rattle.broker_core.specs.declared.answer.Stop.{Stop}
use Rattle.broker_core.specs.declared.answer.Stop.TheVariants.{Skip, Refuse}
use Rattle.broker_core.specs.declared.edit.Edit.TheVariants.{PlaceQueue, PlaceOwn}
use Rattle.broker_core.specs.State.{Stand, Planned, only, queue_of, queue_marks, is_foreign}
use Rattle.broker_core.specs.Verdict.{first_of, is_empty, is_reserved}
use Rattle.broker_core.specs.Exchange.{lacks_alternate}

-- an alternate exchange is given, and isn't its own, or it is asked for alone and isn't any session's own
abbrev pub is_unlike : List ℕ → Bool → Option QueueMarks → Bool
is_unlike alternate exclusive None = false
is_unlike alternate exclusive (Some marks) = (not (is_empty alternate) && not (bytes_eq marks.alternate alternate)) || (exclusive && not (is_some marks.exclusive))

-- ---- queue.declare

abbrev pub declare_passive_stop : ℕ → List ℕ → Stand → Option Stop
declare_passive_stop session name s =
    first_of
    ((not (is_some (queue_marks name s)), Refuse 404)
    ∷ (is_foreign session (queue_marks name s), Refuse 405)
    ∷ [])

abbrev pub declare_stop : ℕ → List ℕ → List ℕ → Bool → Stand → Option Stop
declare_stop session name alternate exclusive s =
    first_of
    ((is_empty name, Refuse 531)
    ∷ (is_foreign session (queue_marks name s), Refuse 405)
    ∷ (is_unlike alternate exclusive (queue_marks name s), Refuse 530)
    ∷ (is_some (queue_marks name s), Skip)
    ∷ (is_reserved name, Refuse 530)
    ∷ (lacks_alternate alternate s, Refuse 404)
    ∷ (nat_le 65536 (length s.queues.entries), Refuse 506)
    ∷ [])

abbrev marks_by : Option ℕ → Bool → Bool → List ℕ → Option Value → QueueMarks
marks_by exclusive durable auto_delete alternate arguments = record { durable = durable; exclusive = exclusive; auto_delete = auto_delete; alternate = alternate; arguments = arguments }

abbrev pub declared : ℕ → List ℕ → Bool → Bool → Bool → List ℕ → Option Value → Planned
declared session name true durable auto_delete alternate arguments = only (PlaceOwn name name session (marks_by (Some session) durable auto_delete alternate arguments))
declared session name false durable auto_delete alternate arguments = only (PlaceQueue name (marks_by None durable auto_delete alternate arguments))

-- ---- queue.delete and queue.purge

abbrev has_some : Option (ℕ × ℕ) → Bool
has_some None = false
has_some (Some counts) = not (counts.0 == 0) || not (counts.1 == 0)

abbrev pub has_copies : List ℕ → Stand → Bool
has_copies name s = has_some (counts_in (queue_of name s) s.queues.lists)

abbrev pub delete_stop : ℕ → List ℕ → Bool → Stand → Option Stop
delete_stop session name if_empty s =
    first_of
    ((is_empty name, Refuse 542)
    ∷ (not (is_some (queue_marks name s)), Refuse 404)
    ∷ (is_foreign session (queue_marks name s), Refuse 405)
    ∷ (if_empty && has_copies name s, Refuse 406)
    ∷ [])

abbrev pub purge_stop : ℕ → List ℕ → Stand → Option Stop
purge_stop session name s =
    first_of
    ((is_empty name, Refuse 542)
    ∷ (not (is_some (queue_marks name s)), Refuse 404)
    ∷ (is_foreign session (queue_marks name s), Refuse 405)
    ∷ [])

-- ---- queue.query

-- the count of available copies stays at its greatest value
abbrev pub available_in : Option (ℕ × ℕ) → ℕ
available_in None = 0
available_in (Some counts) = min counts.0 4294967295

abbrev pub query_by : List ℕ → Option QueueMarks → Option (ℕ × ℕ) → ResultValue
query_by name None counts = QueueQueryResult None None false false false None None None
query_by name (Some marks) counts =
    QueueQueryResult (Some name) (Some marks.alternate) marks.durable (is_some marks.exclusive) marks.auto_delete marks.arguments (Some (available_in counts)) (Some 0)

abbrev pub query_result : List ℕ → Stand → ResultValue
query_result name s = query_by name (queue_marks name s) (counts_in (queue_of name s) s.queues.lists)
