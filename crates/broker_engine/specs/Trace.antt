-- What the events of a trace are to the hub, and what they send.
use Rattle.std.specs.Prelude.{ℕ, ◌==◌, if◌then◌else◌, List, [], ◌∷◌, ◌++◌, codes, flat_map, Option, None, Some}
use Rattle.std.specs.Fmt.{decimal}
use Rattle.std.specs.Map.{lookup, set_value, remove_entry}
use Rattle.std.specs.BTreeMap.{insert_entry}
use Rattle.std.specs.Ordering.{nat_cmp}
use Rattle.hex.specs.Hex.{encode_lower}
use Rattle.octet_reading.specs.Words.{word_of}
use Rattle.octet_reading.specs.declared.why.Why.{Why}
use Rattle.amqp_terms.specs.declared.event.HubEvent.{HubEvent}
use Rattle.amqp_terms.specs.declared.event.HubEvent.TheVariants as event
use Rattle.history_model.specs.declared.trace.TraceEvent.{TraceEvent}
use Rattle.history_model.specs.declared.trace.TraceEvent.TheVariants as trace
use Rattle.history_model.specs.Arrivals.{Arrival, Hears}
use Rattle.history_model.specs.Standing.{world}
use Rattle.history_model.specs.State.{state, covered}
use Rattle.history_model.specs.Answers.{answers, joined_as}
use Rattle.broker_engine.specs.declared.intake.Closing.{Closing}
use Rattle.broker_engine.specs.Talk.{Brings, Nothing, Passes, Closes, Talk, Open, Shut, brings_octet, talk_octet, talk}
use Rattle.broker_engine.specs.Wire.{out_octets, closing_octets}

-- what went out for a piece, all that was heard, and where the connection ended
pub record Went : Type 0 where
  pub sent : List ℕ
  pub heard : List Arrival
  pub refused : Option Closing

-- with this sent before
abbrev pub sent_before : List ℕ → Option Went → Option Went
sent_before octets None = None
sent_before octets (Some w) = Some (record { sent = octets ++ w.sent; heard = w.heard; refused = w.refused })

-- a unit is heard where its rules are built
abbrev pub hear_unit : List Arrival → HubEvent → (List Arrival → Option Went) → Option Went
hear_unit h e rest = if covered (world h) (state h) e then sent_before (flat_map out_octets (answers (world h) e)) (rest (Hears e ∷ h)) else None

-- a fault is told to the peer, and the connection is lost
abbrev pub hear_end : ℕ → Closing → List Arrival → Option Went
hear_end connection closing h = Some (record { sent = closing_octets closing.why; heard = Hears (event.Lost connection) ∷ h; refused = Some closing })

abbrev pub hear_brings : ℕ → Brings → List Arrival → (List Arrival → Option Went) → Option Went
hear_brings connection Nothing h rest = rest h
hear_brings connection (Passes channel unit) h rest = hear_unit h (event.Unit connection channel unit) rest
hear_brings connection (Closes closing) h rest = hear_end connection closing h

-- the octets of an open connection are heard one by one, and a drain follows them
abbrev pub hear_octets : ℕ → Talk → List ℕ → List Arrival → Option Went
hear_octets connection t [] h = Some (record { sent = []; heard = Hears (event.Drain connection) ∷ h; refused = None })
hear_octets connection t (octet ∷ octets) h = hear_brings connection (brings_octet t octet) h (λ more. hear_octets connection (talk_octet t octet) octets more)

-- a Closed one hears nothing
abbrev pub hear_piece : ℕ → Talk → List ℕ → List Arrival → Option Went
hear_piece connection (Open cutting) octets h = hear_octets connection (Open cutting) octets h
hear_piece connection Shut octets h = Some (record { sent = []; heard = h; refused = None })

-- what an outcome leaves heard
abbrev pub heard_by : Option Went → List Arrival → List Arrival
heard_by None h = h
heard_by (Some w) h = w.heard

-- a connection of a trace: its number in the hub, and all octets of its peer
pub record Link : Type 0 where
  pub number : ℕ
  pub heard : List ℕ

abbrev pub hear_link : Option Link → List ℕ → List Arrival → Option Went
hear_link None octets h = None
hear_link (Some link) octets h = hear_piece link.number (talk link.heard) octets h

-- the connections of a trace by their numbers there, and what the hub heard
pub record Past : Type 0 where
  pub connections : List (ℕ × Link)
  pub arrivals : List Arrival

-- the connection of this number
abbrev pub link_of : Past → ℕ → Option Link
link_of p connection = lookup (λ n. n == connection) p.connections

-- a connection that joins gets a number of the hub
abbrev pub put_joined : List (ℕ × Link) → ℕ → Option ℕ → List (ℕ × Link)
put_joined rows connection None = rows
put_joined rows connection (Some number) = insert_entry nat_cmp rows connection (record { number = number; heard = [] })

-- its peer sent octets
abbrev pub put_octets : List (ℕ × Link) → ℕ → Option Link → List ℕ → List (ℕ × Link)
put_octets rows connection None octets = rows
put_octets rows connection (Some link) octets = set_value (λ n. n == connection) rows (record { number = link.number; heard = link.heard ++ octets })

-- it is lost
abbrev pub lose_link : Option Link → List Arrival → List Arrival
lose_link None h = h
lose_link (Some link) h = Hears (event.Lost link.number) ∷ h

-- deliveries may go out, unless it is Closed
abbrev pub drain_talk : Talk → ℕ → List Arrival → List Arrival
drain_talk (Open cutting) number h = Hears (event.Drain number) ∷ h
drain_talk Shut number h = h

abbrev pub drain_link : Option Link → List Arrival → List Arrival
drain_link None h = h
drain_link (Some link) h = drain_talk (talk link.heard) link.number h

-- after an event; the events that aren't built leave all as it is
abbrev pub past_event : Past → TraceEvent → Past
past_event p (trace.Ready c) = record { connections = put_joined p.connections c (joined_as (world p.arrivals) event.Join); arrivals = Hears event.Join ∷ p.arrivals }
past_event p (trace.Open c) = p
past_event p (trace.Bytes c octets) = record { connections = put_octets p.connections c (link_of p c) octets; arrivals = heard_by (hear_link (link_of p c) octets p.arrivals) p.arrivals }
past_event p (trace.Lose c) = record { connections = remove_entry (λ n. n == c) p.connections; arrivals = lose_link (link_of p c) p.arrivals }
past_event p (trace.Quiet c) = record { connections = p.connections; arrivals = drain_link (link_of p c) p.arrivals }
past_event p (trace.Tick now) = p
past_event p trace.Restart = p

-- after the events of a trace, the newest first
abbrev pub past : List TraceEvent → Past
past [] = record { connections = []; arrivals = [] }
past (e ∷ t) = past_event (past t) e

-- the line of what was sent, if anything was
abbrev pub to_line : ℕ → List ℕ → List ℕ
to_line connection [] = []
to_line connection (octet ∷ octets) = codes "to " ++ decimal connection ++ codes " " ++ encode_lower (octet ∷ octets) ++ codes "\n"

-- the segment and the index of a unit's fault
abbrev pub segment_text : Option (ℕ × ℕ) → List ℕ
segment_text None = codes " - - "
segment_text (Some (segment, at)) = codes " " ++ decimal segment ++ codes " " ++ decimal at ++ codes " "

-- where the fault is
abbrev pub refused_front : ℕ → ℕ → List ℕ
refused_front connection at = codes "refused " ++ decimal connection ++ codes " " ++ decimal at

-- the line of a connection that was refused for a reason
abbrev pub refused_text : ℕ → ℕ → Option (ℕ × ℕ) → Option Why → List ℕ
refused_text connection at segment None = []
refused_text connection at segment (Some why) = refused_front connection at ++ segment_text segment ++ word_of why ++ codes "\n"

-- the line of a connection that was refused, if it was
abbrev pub refused_line : ℕ → Option Closing → List ℕ
refused_line connection None = []
refused_line connection (Some closing) = refused_text connection closing.at closing.segment closing.why
