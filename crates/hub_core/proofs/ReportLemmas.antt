-- The rows of the code's table print as the lives do.
use Rattle.std.proofs.Common.{◌≡◌, ℕ, List, ◌++◌, length, flat_map, ◌∙◌, ap, sym, refl}
use Rattle.history_model.specs.declared.names.ConnName.{ConnName}
use Rattle.history_model.specs.Life.{Heard, next, sent}
use Rattle.history_model.specs.Pairs.{Paired, none, more}
use Rattle.history_model.specs.Report.{session_text, session_front, session_counts, session_line, session_line_at, shown, trace_number}
use Rattle.hub_core.specs.declared.session.Session.{Session}
use Rattle.hub_core.specs.Rows.{row_text, stand_text}
use Rattle.hub_core.specs.Stands.{Sits}
use Rattle.amqp_terms.specs.declared.unit.Unit.{Unit as AnyUnit}
use Rattle.session_core.specs.Sent.{sent_by}
use Rattle.session_core.proofs.Receiving.{next_is}

-- one row
row_line : (names : List ConnName) (name : List ℕ) (s : Session) (life : List Heard) → Sits s life → row_text names (name, s) ≡ session_line names (name, life)
row_line names name s life h =
    ap (λ o. session_front (shown name) s.receiver.next ++ session_counts (sent_by s.sender) (length s.sender.kept) ++ stand_text names s o) h.attached
    ∙ ap (λ n. session_text (shown name) n (sent_by s.sender) (length s.sender.kept) (trace_number names s.connection) s.channel) (next_is s.receiver life h.receives)
    ∙ ap (λ n. session_text (shown name) (next life) n (length s.sender.kept) (trace_number names s.connection) s.channel) h.sends.sent_is
    ∙ ap (λ (k : List AnyUnit). session_text (shown name) (next life) (sent life) (length k) (trace_number names s.connection) s.channel) h.sends.kept_is
    ∙ sym (ap (session_line_at names name life) h.place_is)

-- all rows
pub rows_lines : (names : List ConnName) {es : List (List ℕ × Session)} {lives : List (List ℕ × List Heard)} → Paired Sits es lives → flat_map (row_text names) es ≡ flat_map (session_line names) lives
rows_lines names none = refl
rows_lines names (more {k = k} {x = x} {y = y} {es = es} {fs = fs} h p) =
    ap (λ xs. xs ++ flat_map (row_text names) es) (row_line names k x y h) ∙ ap (λ xs. session_line names (k, y) ++ xs) (rows_lines names p)
