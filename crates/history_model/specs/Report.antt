-- The closing lines of a run: what the broker holds when the input ends.
use Rattle.std.specs.Prelude.{ℕ, ◌==◌, List, [], ◌∷◌, ◌++◌, length, codes, flat_map, if◌then◌else◌, Option, None, Some}
use Rattle.std.specs.Fmt.{decimal}
use Rattle.hex.specs.Hex.{encode_lower}
use Rattle.history_model.specs.declared.names.ConnName.{ConnName}
use Rattle.history_model.specs.Life.{Heard, place, next, sent, kept}
use Rattle.history_model.specs.Standing.{World}
use Rattle.history_model.specs.State.{State}

-- a name in lower-case hex, an empty one as `-`
abbrev pub shown : List ℕ → List ℕ
shown [] = codes "-"
shown (octet ∷ octets) = encode_lower (octet ∷ octets)

-- the trace's number of a connection
abbrev pub trace_number : List ConnName → ℕ → ℕ
trace_number [] connection = 0
trace_number (n ∷ names) connection = if n.number == connection then n.name else trace_number names connection

-- a queue, with no copies yet
abbrev pub queue_line : List ℕ → List ℕ
queue_line name = codes "queue " ++ shown name ++ codes " 0 0\n"

-- what a session received
abbrev pub session_front : List ℕ → ℕ → List ℕ
session_front name received = codes "session " ++ name ++ codes " received " ++ decimal received

-- what it gave and keeps
abbrev pub session_counts : ℕ → ℕ → List ℕ
session_counts sent_count kept_count = codes " sent " ++ decimal sent_count ++ codes " kept " ++ decimal kept_count

-- where it stands
abbrev pub session_place : ℕ → ℕ → List ℕ
session_place connection channel = codes " on " ++ decimal connection ++ codes "/" ++ decimal channel ++ codes "\n"

-- a session, in a line
abbrev pub session_text : List ℕ → ℕ → ℕ → ℕ → ℕ → ℕ → List ℕ
session_text name received sent_count kept_count connection channel =
    session_front name received ++ session_counts sent_count kept_count ++ session_place connection channel

-- a session's line, by its life
abbrev pub session_line_at : List ConnName → List ℕ → List Heard → Option (ℕ × ℕ) → List ℕ
session_line_at names name life None = []
session_line_at names name life (Some (connection, channel)) =
    session_text (shown name) (next life) (sent life) (length (kept life)) (trace_number names connection) channel

-- the line of a session that stands on a channel
abbrev pub session_line : List ConnName → (List ℕ × List Heard) → List ℕ
session_line names row = session_line_at names row.0 row.1 (place row.1)

-- all closing lines
abbrev pub closing_lines : List ConnName → World → State → List ℕ
closing_lines names w s = flat_map queue_line s.queues ++ flat_map (session_line names) w.lives ++ codes "end\n"
