-- What the lines of a trace are to the broker, and what is written for each.
use Rattle.std.specs.Prelude.{◌≡◌, ℕ, Bool, is_some, if◌then◌else◌, map, List, [], ◌∷◌, ◌++◌, Option, None, Some, ◌⊎◌, Result, Ok, Err}
use Rattle.broker_engine.specs.declared.intake.Closing.{Closing}
use Rattle.history_model.specs.declared.names.ConnName.{ConnName}
use Rattle.history_model.specs.declared.trace.TraceEvent.{TraceEvent}
use Rattle.history_model.specs.declared.trace.TraceEvent.TheVariants as trace
use Rattle.history_model.specs.Standing.{world}
use Rattle.history_model.specs.State.{state}
use Rattle.broker_engine.specs.Feeds.{Talks}
use Rattle.broker_engine.specs.Trace.{Past, Link, Went, past_event, link_of, hear_link, to_line, refused_line}
use Rattle.history_model.specs.Pairs.{Paired}
use Rattle.history_model.specs.Report.{closing_lines}
use Rattle.hub_core.specs.Hub.{Serves, keeper_of as hub_keeper}
use Rattle.keeper_core.specs.declared.keeper.OpenFault.{OpenFault}
use Rattle.keeper_core.specs.declared.keeper.OpenFault.TheVariants.{NoMemory as no_memory}
use Rattle.line_runs.specs.Lines.{LineStep, Goes, Breaks, Lacks}
use Rattle.line_runs.specs.declared.tool.Stop.{Stop}
use Rattle.line_runs.specs.declared.tool.Stop.TheVariants.{BadLine, Unbuilt, NoMemory}
use Rattle.line_runs.specs.declared.tool.TraceWhy.TheVariants.{NoSuchConnection, InUse}
use Rattle.trace_tool.specs.declared.line.Parsed.{Parsed}
use Rattle.trace_tool.specs.declared.line.Parsed.TheVariants.{Skipped, Event, Bad}
use Rattle.trace_tool.specs.declared.replay.Replay.{Replay}
use Rattle.trace_tool.specs.declared.wire.Wire.{Wire}
use Rattle.trace_tool.specs.Line.{parsed}

-- a connection of the trace is there
abbrev pub known : Past → ℕ → Bool
known p connection = is_some (link_of p connection)

-- the lines of what was sent, and of the connection's end
abbrev pub went_lines : ℕ → List ℕ → Option Closing → List ℕ
went_lines connection sent refused = to_line connection sent ++ refused_line connection refused

-- what is written for an outcome
abbrev pub went_step : ℕ → Option Went → LineStep
went_step connection None = Lacks
went_step connection (Some w) = Goes (went_lines connection w.sent w.refused)

-- what an event comes to
abbrev pub event_step : Past → TraceEvent → LineStep
event_step p (trace.Ready c) = if known p c then Breaks InUse else Goes []
event_step p (trace.Open c) = if known p c then Breaks InUse else Lacks
event_step p (trace.Bytes c octets) = if known p c then went_step c (hear_link (link_of p c) octets p.arrivals) else Breaks NoSuchConnection
event_step p (trace.Lose c) = if known p c then Goes [] else Breaks NoSuchConnection
event_step p (trace.Quiet c) = if known p c then Goes [] else Breaks NoSuchConnection
event_step p (trace.Tick now) = Lacks
event_step p trace.Restart = Lacks

-- what a line comes to
abbrev pub parsed_step : Past → Parsed → LineStep
parsed_step p Skipped = Goes []
parsed_step p (Event e) = event_step p e
parsed_step p (Bad why) = Breaks why

abbrev pub line_step : Past → List ℕ → LineStep
line_step p line = parsed_step p (parsed line)

-- after a line
abbrev pub past_parsed : Past → Parsed → Past
past_parsed p Skipped = p
past_parsed p (Event e) = past_event p e
past_parsed p (Bad why) = p

-- after these lines, the newest first
abbrev pub past_lines : List (List ℕ) → Past
past_lines [] = record { connections = []; arrivals = [] }
past_lines (line ∷ lines) = past_parsed (past_lines lines) (parsed line)

-- a connection's number in the hub, and in the trace
abbrev pub conn_name : (ℕ × Link) → ConnName
conn_name row = record { number = row.1.number; name = row.0 }

-- the closing lines
abbrev pub closing_of : Past → List ℕ
closing_of p = closing_lines (map conn_name p.connections) (world p.arrivals) (state p.arrivals)

-- a connection of the code stands for its number and its peer's octets
pub record IsLink (wire : Wire) (link : Link) : Type 0 where
  pub number_is : wire.number ≡ link.number
  pub talks : Talks wire.conn link.heard

-- the broker's hub heard what came, and it has the connections
pub record StandsFor {K : Type 0} (now : Replay K) (p : Past) : Type 0 where
  pub serves : Serves now.hub p.arrivals
  pub links_are : Paired IsLink now.connections.entries p.connections

-- its keeper
abbrev pub keeper_of : {K : Type 0} → Replay K → K
keeper_of now = hub_keeper now.hub

-- no line came yet, over the keeper; or memory was wanting, and the keeper comes back
abbrev pub Begins : {K : Type 0} → K → Result (Replay K) (OpenFault × K) → Type 0
Begins keeper (Ok now) = StandsFor now (past_lines []) × (keeper_of now ≡ keeper)
Begins keeper (Err (fault, back)) = (fault ≡ no_memory) × (back ≡ keeper)

-- the event is answered as it comes to
abbrev pub HappensTo : {K : Type 0} → Replay K → Past → TraceEvent → Result (List ℕ) Stop → Type 0
HappensTo now p e (Ok text) = (event_step p e ≡ Goes text) × StandsFor now (past_event p e)
HappensTo now p e (Err (BadLine why)) = event_step p e ≡ Breaks why
HappensTo now p e (Err Unbuilt) = ⊥
HappensTo now p e (Err NoMemory) = Unit {0}

-- unless nothing is said of it
abbrev pub Happens : {K : Type 0} → Replay K → Past → TraceEvent → Result (List ℕ) Stop → Type 0
Happens now p e result = (event_step p e ≡ Lacks) ⊎ HappensTo now p e result
