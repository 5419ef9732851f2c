-- The closing line of a session, by the code's table.
use Rattle.std.specs.Prelude.{ℕ, ◌+◌, List, ◌++◌, length, codes, Option, None, Some}
use Rattle.std.specs.Fmt.{decimal}
use Rattle.history_model.specs.declared.names.ConnName.{ConnName}
use Rattle.history_model.specs.Report.{session_front, session_counts, session_place, shown, trace_number}
use Rattle.session_core.specs.Sent.{sent_by}
use Rattle.hub_core.specs.declared.session.Session.{Session}

-- where it stands, or when it ends
abbrev pub stand_text : List ConnName → Session → Option ℕ → List ℕ
stand_text names s None = session_place (trace_number names s.connection) s.channel
stand_text names s (Some since) = codes " loose " ++ decimal (since + s.timeout) ++ codes "\n"

-- the line of a row
abbrev pub row_text : List ConnName → (List ℕ × Session) → List ℕ
row_text names row =
    session_front (shown row.0) row.1.receiver.next ++ session_counts (sent_by row.1.sender) (length row.1.sender.kept) ++ stand_text names row.1 row.1.loose
