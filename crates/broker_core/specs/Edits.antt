-- What each single change does.
use Rattle.std.specs.Prelude.{◌≡◌, ℕ, ◌+◌, ◌-◌, ◌^◌, ◌≤◌, min, Bool, true, false, List, [], ◌∷◌, filter, Option, None, Some}
use Rattle.std.specs.List.{count_by}
use Rattle.std.specs.Ordering.{nat_cmp}
use Rattle.amqp_terms.specs.declared.unit.Unit.{Unit as AnyUnit}
use Rattle.name_map.specs.Named.{find, put, out}
use Rattle.sorted_map.specs.Map.{changed}
use Rattle.binding_table.specs.Rows.{is_of}
use Rattle.queue_copies.specs.Copied.{Copied, copies_at, held_only}
use Rattle.exchange_core.specs.declared.marks.ExchangeMarks.{ExchangeMarks}
use Rattle.exchange_core.specs.Exchanges.{Exchanged, rows_without, with_binding, without_binding, after_unbinding, is_other, stays}
use Rattle.queue_core.specs.declared.marks.QueueMarks.{QueueMarks}
use Rattle.queue_core.specs.Queues.{Queued, at_name}
use Rattle.broker_core.specs.declared.session.Session.{Session}
use Rattle.broker_core.specs.declared.edit.Edit.{Edit}
use Rattle.broker_core.specs.declared.edit.Edit.TheVariants.{Fail, Complete, PlaceExchange, DropExchange, Bind, Unbind, PlaceQueue, PlaceOwn, DropQueue, Purge}
use Rattle.broker_core.specs.State.{Stand, Planned}

-- ---- sessions

abbrev pub as_failed : Session → Session
as_failed t = record t { failed = true }

abbrev pub as_ready : Bool → Session → Session
as_ready ready t = record t { ready = ready }

-- so many are no longer uncompleted
abbrev pub as_completed : ℕ → Session → Session
as_completed count t = record t { uncompleted = t.uncompleted - count }

-- a command more was given; numbers end at the greatest u64
abbrev pub as_given : Session → Session
as_given t = record t { given = min (t.given + 1) (2 ^ 64 - 1); uncompleted = min (t.uncompleted + 1) (2 ^ 64 - 1) }

abbrev pub sessions_by : Edit → List (ℕ × Session) → List (ℕ × Session)
sessions_by (Fail session) es = changed nat_cmp session as_failed es
sessions_by (Complete session count) es = changed nat_cmp session (as_completed count) es
sessions_by edit es = es

-- ---- exchanges and bindings

-- an exchange is there, which has no binding; one that was there stays
abbrev pub PlacesExchange : Option (ExchangeMarks × ℕ) → List ℕ → ExchangeMarks → Exchanged → Exchanged → Type 0
PlacesExchange None name marks old new = ((n : ℕ) × (new.entries ≡ put name (marks, n) old.entries) × (filter (is_of n) new.rows ≡ [])) × (new.rows ≡ old.rows)
PlacesExchange (Some there) name marks old new = new ≡ old

abbrev pub ExchangesBy : Edit → Exchanged → Exchanged → Type 0
ExchangesBy (PlaceExchange name marks) old new = PlacesExchange (find name old.entries) name marks old new
ExchangesBy (DropExchange name) old new = (new.entries ≡ out name old.entries) × (new.rows ≡ rows_without (find name old.entries) old.rows)
ExchangesBy (Bind exchange binding) old new = (new.entries ≡ old.entries) × (new.rows ≡ with_binding (find exchange old.entries) binding old.rows)
ExchangesBy (Unbind exchange queue key) old new =
    (new.entries ≡ after_unbinding exchange (find exchange old.entries) queue key old.rows old.entries)
    × (new.rows ≡ without_binding (find exchange old.entries) queue key old.rows)
ExchangesBy (DropQueue name) old new = (new.entries ≡ filter (stays name old.rows) old.entries) × (new.rows ≡ filter (is_other name) old.rows)
ExchangesBy edit old new = new ≡ old

-- ---- queues

-- a queue is there, which has no copies; one that was there stays
abbrev pub PlacesQueue : Option (QueueMarks × ℕ) → List ℕ → QueueMarks → Queued → Queued → Type 0
PlacesQueue None name marks old new = ((list : ℕ) × (new.entries ≡ put name (marks, list) old.entries) × (copies_at new.lists list ≡ [])) × (new.lists ≡ old.lists)
PlacesQueue (Some there) name marks old new = new ≡ old

abbrev none_of : List Copied → List Copied
none_of copies = []

abbrev pub QueuesBy : Edit → Queued → Queued → Type 0
QueuesBy (PlaceQueue name marks) old new = PlacesQueue (find name old.entries) name marks old new
QueuesBy (PlaceOwn name again session marks) old new = PlacesQueue (find name old.entries) name marks old new
QueuesBy (DropQueue name) old new = (new.entries ≡ out name old.entries) × (new.lists ≡ at_name (find name old.entries) none_of old.lists)
QueuesBy (Purge name) old new = (new.entries ≡ old.entries) × (new.lists ≡ at_name (find name old.entries) held_only old.lists)
QueuesBy edit old new = new ≡ old

abbrev pub with_owned : Option ℕ → List ℕ → ℕ → List (List ℕ × ℕ) → List (List ℕ × ℕ)
with_owned None name session es = put name session es
with_owned (Some other) name session es = es

-- the queues that are one session's own
abbrev pub owned_by : Edit → List (List ℕ × ℕ) → List (List ℕ × ℕ)
owned_by (PlaceOwn name again session marks) es = with_owned (find again es) again session es
owned_by (DropQueue name) es = out name es
owned_by edit es = es

-- ---- all of it

pub record Acted (edit : Edit) (old new : Stand) : Type 0 where
  pub exchanges : ExchangesBy edit old.exchanges new.exchanges
  pub queues : QueuesBy edit old.queues new.queues
  pub sessions : new.sessions.entries ≡ sessions_by edit old.sessions.entries
  pub owned : new.owned.entries ≡ owned_by edit old.owned.entries
  pub time : new.time ≡ old.time

-- one after another
abbrev pub ActedAll : List Edit → Stand → Stand → Type 0
ActedAll [] old new = new ≡ old
ActedAll (edit ∷ edits) old new = (next : Stand) × Acted edit old next × ActedAll edits next new

-- ---- what is given

abbrev pub given_all : List (ℕ × AnyUnit) → List (ℕ × Session) → List (ℕ × Session)
given_all [] es = es
given_all (given ∷ more) es = given_all more (changed nat_cmp given.0 as_given es)

-- a plan is done: its changes, one after another, and then its commands are given
pub record Applied (plan : Planned) (old new : Stand) : Type 0 where
  pub next : Stand
  pub acted : ActedAll plan.edits old next
  pub exchanges : new.exchanges ≡ next.exchanges
  pub queues : new.queues ≡ next.queues
  pub sessions : new.sessions.entries ≡ given_all plan.given next.sessions.entries
  pub owned : new.owned ≡ next.owned
  pub time : new.time ≡ next.time

-- ---- room

abbrev pub is_exchange : Edit → Bool
is_exchange (PlaceExchange name marks) = true
is_exchange edit = false

abbrev pub is_binding : Edit → Bool
is_binding (Bind exchange binding) = true
is_binding edit = false

abbrev pub is_queue : Edit → Bool
is_queue (PlaceQueue name marks) = true
is_queue (PlaceOwn name again session marks) = true
is_queue edit = false

abbrev pub is_own : Edit → Bool
is_own (PlaceOwn name again session marks) = true
is_own edit = false

pub record HasRoom (edits : List Edit) (s : Stand) : Type 0 where
  pub exchanges : count_by is_exchange edits ≤ s.exchanges.room
  pub bindings : count_by is_binding edits ≤ s.exchanges.spare
  pub queues : count_by is_queue edits ≤ s.queues.room
  pub owned : count_by is_own edits ≤ s.owned.room
