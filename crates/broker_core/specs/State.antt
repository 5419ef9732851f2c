-- What the broker holds, and what it decides.
use Rattle.std.specs.Prelude.{ℕ, not, ◌==◌, Bool, false, List, [], ◌∷◌, ◌++◌, Option, None, Some}
use Rattle.std.specs.Ordering.{nat_cmp}
use Rattle.amqp_terms.specs.declared.unit.Unit.{Unit as AnyUnit}
use Rattle.name_map.specs.Named.{Named}
use Rattle.name_map.specs.Named as named
use Rattle.sorted_map.specs.Map.{Mapped}
use Rattle.sorted_map.specs.Map as sorted
use Rattle.exchange_core.specs.declared.marks.ExchangeMarks.{ExchangeMarks}
use Rattle.exchange_core.specs.Exchanges.{Exchanged}
use Rattle.exchange_core.specs.Exchanges as exchanges
use Rattle.queue_core.specs.declared.marks.QueueMarks.{QueueMarks}
use Rattle.queue_core.specs.Queues.{Queued}
use Rattle.queue_core.specs.Queues as queues
use Rattle.broker_core.specs.declared.edit.Edit.{Edit}
use Rattle.broker_core.specs.declared.plan.Moment.{Moment}
use Rattle.broker_core.specs.declared.session.Session.{Session}

-- the exchanges, the queues, the sessions by number, the queues that are one session's own, and the time
pub record Stand : Type 0 where
  pub exchanges : Exchanged
  pub queues : Queued
  pub sessions : Mapped ℕ Session
  pub owned : Named ℕ
  pub time : ℕ

-- changes, the commands that are given to sessions, and what needs no decision
pub record Planned : Type 0 where
  pub edits : List Edit
  pub given : List (ℕ × AnyUnit)
  pub moment : Option Moment

abbrev pub nothing : Planned
nothing = record { edits = []; given = []; moment = None }

abbrev pub only : Edit → Planned
only edit = record { edits = edit ∷ []; given = []; moment = None }

abbrev pub at : Moment → Planned
at moment = record { edits = []; given = []; moment = Some moment }

-- with a command more for a session
abbrev pub with_given : ℕ → AnyUnit → Planned → Planned
with_given session unit plan = record plan { given = plan.given ++ (session, unit) ∷ [] }

abbrev pub session_of : ℕ → Stand → Option Session
session_of session s = sorted.find nat_cmp session s.sessions.entries

abbrev pub exchange_of : List ℕ → Stand → Option (ExchangeMarks × ℕ)
exchange_of name s = named.find name s.exchanges.entries

abbrev pub exchange_marks : List ℕ → Stand → Option ExchangeMarks
exchange_marks name s = exchanges.marks_in (exchange_of name s)

abbrev pub queue_of : List ℕ → Stand → Option (QueueMarks × ℕ)
queue_of name s = named.find name s.queues.entries

abbrev pub queue_marks : List ℕ → Stand → Option QueueMarks
queue_marks name s = queues.marks_in (queue_of name s)

abbrev is_not : ℕ → Option ℕ → Bool
is_not session None = false
is_not session (Some owner) = not (owner == session)

-- the queue is another session's own
abbrev pub is_foreign : ℕ → Option QueueMarks → Bool
is_foreign session None = false
is_foreign session (Some marks) = is_not session marks.exclusive
