-- What becomes of the connections of a trace.
use Rattle.std.specs.Prelude.{◌≡◌, ℕ, ◌==◌, List, ◌++◌, Option, None, Some, ◌⊎◌, Result, Ok, Err}
use Rattle.std.specs.Map.{lookup}
use Rattle.history_model.specs.declared.names.ConnName.{ConnName}
use Rattle.history_model.specs.Arrivals.{Arrival}
use Rattle.history_model.specs.Pairs.{Paired}
use Rattle.broker_engine.specs.declared.intake.Closing.{Closing}
use Rattle.broker_engine.specs.Trace.{Link, Went, hear_link, drain_link, put_octets}
use Rattle.hub_core.specs.declared.hub.Hub.{Hub}
use Rattle.hub_core.specs.Hub.{Serves}
use Rattle.line_runs.specs.declared.tool.Stop.{Stop}
use Rattle.line_runs.specs.declared.tool.Stop.TheVariants.{BadLine, Unbuilt, NoMemory}
use Rattle.line_runs.specs.declared.tool.TraceWhy.TheVariants.{NoSuchConnection}
use Rattle.trace_tool.specs.declared.wire.Wire.{Wire}
use Rattle.trace_tool.specs.Replay.{IsLink}

-- a connection's number in the hub, and in the trace, by the code's table
abbrev pub wire_name : (ℕ × Wire) → ConnName
wire_name row = record { number = row.1.number; name = row.0 }

-- the piece was heard on its connection
pub record LinkHeard {K : Type 0} (hub : Hub K) (wires : List (ℕ × Wire)) (h : List Arrival) (links : List (ℕ × Link)) (connection : ℕ) (octets old new : List ℕ) (refused : Option Closing) : Type 0 where
  pub link : Link
  pub there : lookup (λ n. n == connection) links ≡ Some link
  pub went : Went
  pub goes : hear_link (Some link) octets h ≡ Some went
  pub refused_is : refused ≡ went.refused
  pub sent : new ≡ old ++ went.sent
  pub serves : Serves hub went.heard
  pub links_are : Paired IsLink wires (put_octets links connection (Some link) octets)

-- or the connection isn't there
abbrev pub LinkTold : {K : Type 0} → Hub K → List (ℕ × Wire) → List Arrival → List (ℕ × Link) → ℕ → List ℕ → List ℕ → List ℕ → Result (Option Closing) Stop → Type 0
LinkTold hub wires h links connection octets old new (Ok refused) = LinkHeard hub wires h links connection octets old new refused
LinkTold hub wires h links connection octets old new (Err Unbuilt) = ⊥
LinkTold hub wires h links connection octets old new (Err (BadLine why)) = (lookup (λ n. n == connection) links ≡ None) × (why ≡ NoSuchConnection)
LinkTold hub wires h links connection octets old new (Err NoMemory) = Unit {0}

-- nothing is said of a unit in the piece
pub record LinkLacks (h : List Arrival) (links : List (ℕ × Link)) (connection : ℕ) (octets : List ℕ) : Type 0 where
  pub link : Link
  pub there : lookup (λ n. n == connection) links ≡ Some link
  pub lacks : hear_link (Some link) octets h ≡ None

abbrev pub Linked : {K : Type 0} → Hub K → List (ℕ × Wire) → List Arrival → List (ℕ × Link) → ℕ → List ℕ → List ℕ → List ℕ → Result (Option Closing) Stop → Type 0
Linked hub wires h links connection octets old new result =
    LinkLacks h links connection octets ⊎ LinkTold hub wires h links connection octets old new result

-- deliveries may have gone out, of which there are none, unless the connection isn't there
abbrev pub Drained : {K : Type 0} → Hub K → List Arrival → Option Link → List ℕ → List ℕ → Result (Unit {0}) Stop → Type 0
Drained hub h None old new (Err (BadLine why)) = why ≡ NoSuchConnection
Drained hub h None old new result = ⊥
Drained hub h (Some link) old new (Ok done) = Serves hub (drain_link (Some link) h) × (new ≡ old)
Drained hub h (Some link) old new (Err NoMemory) = Unit {0}
Drained hub h (Some link) old new (Err Unbuilt) = ⊥
Drained hub h (Some link) old new (Err (BadLine why)) = ⊥
