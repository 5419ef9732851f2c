-- What a line of a trace says by itself.
use Rattle.std.specs.Prelude.{ℕ, ◌==◌, ◌&&◌, true, Bool, is_some, is_none, if◌then◌else◌, bytes_eq, codes, List, [], ◌∷◌, Option, None, Some, Result, Ok, Err}
use Rattle.line_runs.specs.declared.tool.TraceWhy.{TraceWhy}
use Rattle.line_runs.specs.declared.tool.TraceWhy.TheVariants.{Unknown, BadNumber, BadHex}
use Rattle.history_model.specs.declared.trace.TraceEvent.{TraceEvent}
use Rattle.history_model.specs.declared.trace.TraceEvent.TheVariants as trace
use Rattle.trace_words.specs.Parts.{word_of, rest_of}
use Rattle.trace_words.specs.Numbers.{number_in}
use Rattle.trace_words.specs.HexWords.{octets_in}
use Rattle.trace_tool.specs.declared.line.Parsed.{Parsed}
use Rattle.trace_tool.specs.declared.line.Parsed.TheVariants.{Skipped, Event, Bad}

-- a number, or none
abbrev pub number_or_why : Option ℕ → Result ℕ TraceWhy
number_or_why None = Err BadNumber
number_or_why (Some n) = Ok n

-- the one number that follows a word: one word more, and a number in its range
abbrev pub one_number : ℕ → Option (List ℕ) → Result ℕ TraceWhy
one_number greatest None = Err Unknown
one_number greatest (Some word) = if is_some (rest_of word) then Err Unknown else number_or_why (number_in greatest word)

-- an event of the number that follows
abbrev pub event_of : (ℕ → TraceEvent) → Result ℕ TraceWhy → Parsed
event_of event (Ok n) = Event (event n)
event_of event (Err why) = Bad why

-- an event of a connection
abbrev pub connection_event : (ℕ → TraceEvent) → Option (List ℕ) → Parsed
connection_event event rest = event_of event (one_number 4294967295 rest)

-- the lines that aren't `bytes`
unfoldable pub other_line : List ℕ → Option (List ℕ) → Parsed
other_line word rest =
    if bytes_eq word (codes "ready") then connection_event trace.Ready rest
    else if bytes_eq word (codes "open") then connection_event trace.Open rest
    else if bytes_eq word (codes "lose") then connection_event trace.Lose rest
    else if bytes_eq word (codes "quiet") then connection_event trace.Quiet rest
    else if bytes_eq word (codes "tick") then event_of trace.Tick (one_number 18446744073709551615 rest)
    else if bytes_eq word (codes "restart") && is_none rest then Event trace.Restart
    else Bad Unknown

-- the octets of a `bytes` line, behind its connection
abbrev pub bytes_event : Option ℕ → Option (List ℕ) → Parsed
bytes_event None octets = Bad BadNumber
bytes_event (Some n) None = Bad BadHex
bytes_event (Some n) (Some octets) = Event (trace.Bytes n octets)

-- two words follow
abbrev pub bytes_words : List ℕ → Option (List ℕ) → Parsed
bytes_words number None = Bad Unknown
bytes_words number (Some hex) = if is_some (rest_of hex) then Bad Unknown else bytes_event (number_in 4294967295 number) (octets_in hex)

abbrev pub bytes_line : Option (List ℕ) → Parsed
bytes_line None = Bad Unknown
bytes_line (Some words) = bytes_words (word_of words) (rest_of words)

-- an empty line, or a comment
abbrev pub is_skipped : List ℕ → Bool
is_skipped [] = true
is_skipped (octet ∷ octets) = octet == 35

-- what a line says
unfoldable pub parsed : List ℕ → Parsed
parsed line =
    if is_skipped line then Skipped
    else if bytes_eq (word_of line) (codes "bytes") then bytes_line (rest_of line) else other_line (word_of line) (rest_of line)
