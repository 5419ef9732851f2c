-- What becomes of a piece of octets at the hub.
use Rattle.std.specs.Prelude.{◌≡◌, ℕ, ◌<◌, ◌≤◌, List, ◌∷◌, ◌++◌, length, take, drop, Option, None, Some, ◌⊎◌, Result, Ok, Err}
use Rattle.amqp_terms.specs.declared.event.HubEvent.{HubEvent}
use Rattle.amqp_terms.specs.declared.event.HubEvent.TheVariants as event
use Rattle.history_model.specs.Arrivals.{Arrival, Hears}
use Rattle.broker_engine.specs.declared.intake.Closing.{Closing}
use Rattle.broker_engine.specs.declared.conn.Conn.{Conn}
use Rattle.broker_engine.specs.Feeds.{Talks}
use Rattle.broker_engine.specs.Talk.{talk}
use Rattle.broker_engine.specs.Trace.{Went, hear_unit, hear_end, hear_octets, hear_piece, sent_before}
use Rattle.broker_engine.specs.Wire.{closing_octets}
use Rattle.hub_core.specs.declared.hub.Hub.{Hub}
use Rattle.hub_core.specs.Hub.{Serves}
use Rattle.line_runs.specs.declared.tool.Stop.{Stop}
use Rattle.line_runs.specs.declared.tool.Stop.TheVariants.{BadLine, Unbuilt, NoMemory}
use Rattle.trace_tool.specs.declared.hearing.Heard.{Heard}

-- an event was heard, and what went out for it follows what was sent
pub record HeardOne {K : Type 0} (hub : Hub K) (h : List Arrival) (e : HubEvent) (old new : List ℕ) : Type 0 where
  pub more : List ℕ
  pub goes : (rest : List Arrival → Option Went) → hear_unit h e rest ≡ sent_before more (rest (Hears e ∷ h))
  pub sent : new ≡ old ++ more
  pub serves : Serves hub (Hears e ∷ h)

-- a unit was heard
abbrev pub UnitTold : {K : Type 0} → Hub K → List Arrival → HubEvent → List ℕ → List ℕ → Result (Unit {0}) Stop → Type 0
UnitTold hub h e old new (Ok done) = HeardOne hub h e old new
UnitTold hub h e old new (Err Unbuilt) = ⊥
UnitTold hub h e old new (Err NoMemory) = Unit {0}
UnitTold hub h e old new (Err (BadLine why)) = ⊥

-- unless nothing is said of it
abbrev pub UnitDone : {K : Type 0} → Hub K → List Arrival → HubEvent → List ℕ → List ℕ → Result (Unit {0}) Stop → Type 0
UnitDone hub h e old new result = ((rest : List Arrival → Option Went) → hear_unit h e rest ≡ None) ⊎ UnitTold hub h e old new result

-- so many octets were heard, and the rest follows
pub record HeardSome {K : Type 0} (hub : Hub K) (conn : Conn) (h : List Arrival) (number : ℕ) (before octets old new : List ℕ) (taken : ℕ) : Type 0 where
  pub more : List ℕ
  pub then_ : List Arrival
  pub goes : hear_octets number (talk before) octets h ≡ sent_before more (hear_octets number (talk (before ++ take taken octets)) (drop taken octets) then_)
  pub sent : new ≡ old ++ more
  pub serves : Serves hub then_
  pub talks : Talks conn (before ++ take taken octets)

-- the connection was closed
pub record HeardEnd {K : Type 0} (hub : Hub K) (conn : Conn) (h : List Arrival) (number : ℕ) (before octets old new : List ℕ) (closing : Closing) : Type 0 where
  pub goes : hear_octets number (talk before) octets h ≡ hear_end number closing h
  pub sent : new ≡ old ++ closing_octets closing.why
  pub serves : Serves hub (Hears (event.Lost number) ∷ h)
  pub talks : Talks conn (before ++ octets)

abbrev pub SomeHeard : {K : Type 0} → Hub K → Conn → List Arrival → ℕ → List ℕ → List ℕ → List ℕ → List ℕ → ℕ → Option Closing → Type 0
SomeHeard hub conn h number before octets old new taken None = HeardSome hub conn h number before octets old new taken
SomeHeard hub conn h number before octets old new taken (Some closing) = HeardEnd hub conn h number before octets old new closing

-- octets were heard
abbrev pub SomeTold : {K : Type 0} → Hub K → Conn → List Arrival → ℕ → List ℕ → List ℕ → List ℕ → List ℕ → Result Heard Stop → Type 0
SomeTold hub conn h number before octets old new (Ok heard) = SomeHeard hub conn h number before octets old new heard.taken heard.refused
SomeTold hub conn h number before octets old new (Err Unbuilt) = ⊥
SomeTold hub conn h number before octets old new (Err NoMemory) = Unit {0}
SomeTold hub conn h number before octets old new (Err (BadLine why)) = ⊥

-- unless nothing is said of a unit in them
abbrev pub SomeDone : {K : Type 0} → Hub K → Conn → List Arrival → ℕ → List ℕ → List ℕ → List ℕ → List ℕ → Result Heard Stop → Type 0
SomeDone hub conn h number before octets old new result =
    (hear_octets number (talk before) octets h ≡ None) ⊎ SomeTold hub conn h number before octets old new result

-- what was taken is some of the octets
abbrev pub TakesSome : List ℕ → Result Heard Stop → Type 0
TakesSome octets (Ok heard) = (heard.taken ≤ length octets) × (0 < length octets → 0 < heard.taken)
TakesSome octets (Err stop) = Unit {0}

-- a whole piece was heard
pub record HeardPiece {K : Type 0} (hub : Hub K) (conn : Conn) (h : List Arrival) (number : ℕ) (before octets old new : List ℕ) (refused : Option Closing) : Type 0 where
  pub went : Went
  pub goes : hear_piece number (talk before) octets h ≡ Some went
  pub refused_is : refused ≡ went.refused
  pub sent : new ≡ old ++ went.sent
  pub serves : Serves hub went.heard
  pub talks : Talks conn (before ++ octets)

-- a piece was heard
abbrev pub PieceTold : {K : Type 0} → Hub K → Conn → List Arrival → ℕ → List ℕ → List ℕ → List ℕ → List ℕ → Result (Option Closing) Stop → Type 0
PieceTold hub conn h number before octets old new (Ok refused) = HeardPiece hub conn h number before octets old new refused
PieceTold hub conn h number before octets old new (Err Unbuilt) = ⊥
PieceTold hub conn h number before octets old new (Err NoMemory) = Unit {0}
PieceTold hub conn h number before octets old new (Err (BadLine why)) = ⊥

-- unless nothing is said of a unit in it
abbrev pub PieceDone : {K : Type 0} → Hub K → Conn → List Arrival → ℕ → List ℕ → List ℕ → List ℕ → List ℕ → Result (Option Closing) Stop → Type 0
PieceDone hub conn h number before octets old new result =
    (hear_piece number (talk before) octets h ≡ None) ⊎ PieceTold hub conn h number before octets old new result
