-- What a tool's words ask for, and what its status says of the run.
use Rattle.std.specs.Prelude.{◌≡◌, ◌≤◌, ℕ, nat_le, Bool, true, false, not, if◌then◌else◌, List, [], ◌∷◌, codes, bytes_eq, string_bytes, Option, None, Some, IfSome, String}
use Rattle.std.specs.Global.{Global}
use Rattle.outside_core.specs.Faults.{Rose}
use Rattle.line_runs.specs.Lines.{Progress, outcome, strays}
use Rattle.line_runs.specs.Run.{Reports}
use Rattle.line_runs.specs.declared.run.Ended.{Ended}
use Rattle.line_runs.specs.declared.run.Ended.TheVariants as ended
use Rattle.octet_tools.specs.declared.tool.OctetTool.{OctetTool}
use Rattle.octet_tools.specs.declared.tool.OctetTool.TheVariants as tool
use Rattle.octet_tools.specs.declared.run.OctetsEnded.{OctetsEnded}
use Rattle.octet_tools.specs.declared.run.OctetsEnded.TheVariants as octets
use Rattle.octet_tools.specs.Run.{ReportsTold}
use Rattle.trace_words.specs.Numbers.{number_in}
use Rattle.trace_tool.specs.Replay.{line_step, past_lines, closing_of}
use Rattle.trace_tool.specs.declared.status.Status.{Status}
use Rattle.trace_tool.specs.declared.status.Status.TheVariants as status

-- the status of a run that ended so
abbrev pub status_of : Ended → Status
status_of ended.Ok = status.Ok
status_of (ended.BadLine line why) = status.BadTrace line why
status_of (ended.Unbuilt line) = status.Unbuilt line
status_of ended.ReadFault = status.ReadFault
status_of ended.WriteFault = status.WriteFault
status_of ended.NoMemory = status.NoMemory
status_of ended.InputTooLong = status.InputTooLong

-- and of a run over octets
abbrev pub status_of_octets : OctetsEnded → Status
status_of_octets octets.Ok = status.Ok
status_of_octets (octets.Malformed at why) = status.Malformed at why
status_of_octets octets.ReadFault = status.ReadFault
status_of_octets octets.WriteFault = status.WriteFault
status_of_octets octets.NoMemory = status.NoMemory
status_of_octets octets.InputTooLong = status.InputTooLong

-- the number that a process ends with
abbrev pub code_of : Status → ℕ
code_of status.Ok = 0
code_of status.Usage = 1
code_of (status.BadTrace line why) = 2
code_of status.ReadFault = 3
code_of status.WriteFault = 4
code_of status.NoMemory = 5
code_of status.InputTooLong = 8
code_of (status.Malformed at why) = 9
code_of (status.Unbuilt line) = 10

-- the words are those of `replay`
abbrev pub is_replay : List (String Global) → Bool
is_replay (word ∷ []) = bytes_eq (string_bytes word) (codes "replay")
is_replay words = false

-- the largest frame of `reframe`: from 4,096 to 65,535
abbrev pub frame_limit : Option ℕ → Option OctetTool
frame_limit None = None
frame_limit (Some n) = if nat_le 4096 n then Some (tool.Reframe n) else None

-- the words are those of `show`, or of `reframe N`
abbrev pub octet_tool : List (String Global) → Option OctetTool
octet_tool (word ∷ []) = if bytes_eq (string_bytes word) (codes "show") then Some tool.Show else None
octet_tool (word ∷ number ∷ []) = if bytes_eq (string_bytes word) (codes "reframe") then frame_limit (number_in 65535 (string_bytes number)) else None
octet_tool words = None

-- the run ended so, and wrote what the definitions give for the octets
pub record OctetsTold (t : OctetTool) (left remains held holds : Option (List ℕ)) (answer : Status) : Type 0 where
  pub ended_as : OctetsEnded
  pub status_is : answer ≡ status_of_octets ended_as
  pub reports : ReportsTold t left remains held holds ended_as

-- what the lines of the input come to, and whether something is said of each that is taken
abbrev pub replayed : List ℕ → Progress
replayed all = outcome (λ past line. line_step (past_lines past) line) all

abbrev pub is_covered : List ℕ → Bool
is_covered all = not (strays (replayed all))

-- the run ended so, and wrote what the broker's definitions give for the input, where these cover it
pub record Replays (left remains held holds : Option (List ℕ)) (answer : Status) : Type 0 where
  pub ended_as : Ended
  pub status_is : answer ≡ status_of ended_as
  pub reports : IfSome left (λ all. is_covered all ≡ true → Reports (λ past line. line_step (past_lines past) line) (λ past. closing_of (past_lines past)) all left remains held holds ended_as)

-- the source's count never falls, and rose where a read failed
abbrev pub ReadCause : ℕ → ℕ → Status → Type 0
ReadCause before now status.ReadFault = (before ≤ now) × Rose before now
ReadCause before now status.Ok = before ≤ now
ReadCause before now status.Usage = before ≤ now
ReadCause before now (status.BadTrace line why) = before ≤ now
ReadCause before now status.WriteFault = before ≤ now
ReadCause before now status.NoMemory = before ≤ now
ReadCause before now status.InputTooLong = before ≤ now
ReadCause before now (status.Malformed at why) = before ≤ now
ReadCause before now (status.Unbuilt line) = before ≤ now

-- the sink's count never falls, and rose where a write failed
abbrev pub WriteCause : ℕ → ℕ → Status → Type 0
WriteCause before now status.WriteFault = (before ≤ now) × Rose before now
WriteCause before now status.Ok = before ≤ now
WriteCause before now status.Usage = before ≤ now
WriteCause before now (status.BadTrace line why) = before ≤ now
WriteCause before now status.ReadFault = before ≤ now
WriteCause before now status.NoMemory = before ≤ now
WriteCause before now status.InputTooLong = before ≤ now
WriteCause before now (status.Malformed at why) = before ≤ now
WriteCause before now (status.Unbuilt line) = before ≤ now
