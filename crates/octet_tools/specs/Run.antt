-- What a run over an input wrote, by how it ended.
use Rattle.std.specs.Prelude.{◌≡◌, ℕ, ◌+◌, ◌-◌, ◌<◌, ◌≤◌, ◌^◌, List, length, take, Option, None, Some, IfSome}
use Rattle.std.specs.Io.KnownBytes.{Consumes, Appends, IsAtEnd}
use Rattle.outside_core.specs.Faults.{Rose}
use Rattle.line_runs.specs.Lines.{longest_input}
use Rattle.line_runs.specs.Write.{IsFrontOf}
use Rattle.octet_reading.specs.declared.why.Why.{Why}
use Rattle.octet_tools.specs.declared.tool.OctetTool.{OctetTool}
use Rattle.octet_tools.specs.declared.run.OctetsEnded.{OctetsEnded}
use Rattle.octet_tools.specs.declared.run.OctetsEnded.TheVariants as ended
use Rattle.octet_tools.specs.declared.run.Turned.{Turned}
use Rattle.octet_tools.specs.declared.run.Turned.TheVariants as turned
use Rattle.octet_tools.specs.declared.course.Stage.{Stage}
use Rattle.octet_tools.specs.Course.{Course, Ends, after, course, texts, output, fault_of}
use Rattle.octet_tools.specs.Taking.{StandsFor}

-- the output of these octets was written, and this is their first fault
pub record EndsBy (t : OctetTool) (octets : List ℕ) (fault : Option (ℕ × Why)) (held holds : Option (List ℕ)) : Type 0 where
  pub fault_is : fault_of (course octets) ≡ fault
  pub wrote : Appends held holds (output t octets)

-- the source failed, and what came before gave was written
pub record StopsReading (t : OctetTool) (left remains held holds : Option (List ℕ)) : Type 0 where
  pub took : List ℕ
  pub consumes : Consumes left remains took
  pub ends : EndsBy t took None held holds

-- a front of the output was written
pub record StopsWriting (text : List ℕ) (held holds : Option (List ℕ)) : Type 0 where
  pub front : List ℕ
  pub is_front : IsFrontOf front text
  pub wrote : Appends held holds front

-- what a run over the whole input wrote, by how it ended; a run takes the first 2^30 octets
abbrev pub Reports : OctetTool → List ℕ → Option (List ℕ) → Option (List ℕ) → Option (List ℕ) → Option (List ℕ) → OctetsEnded → Type 0
Reports t all left remains held holds ended.Ok = (length all ≤ longest_input) × EndsBy t (take longest_input all) None held holds
Reports t all left remains held holds (ended.Malformed at why) = EndsBy t (take longest_input all) (Some (at, why)) held holds
Reports t all left remains held holds ended.ReadFault = StopsReading t left remains held holds
Reports t all left remains held holds ended.WriteFault = StopsWriting (output t (take longest_input all)) held holds
Reports t all left remains held holds ended.NoMemory = StopsWriting (output t (take longest_input all)) held holds
Reports t all left remains held holds ended.InputTooLong = (longest_input < length all) × EndsBy t (take longest_input all) None held holds

-- the same, where the source tells its octets
abbrev pub ReportsTold : OctetTool → Option (List ℕ) → Option (List ℕ) → Option (List ℕ) → Option (List ℕ) → OctetsEnded → Type 0
ReportsTold t left remains held holds e = IfSome left (λ all. Reports t all left remains held holds e)

-- the source's count never falls, and rose where a read failed
pub record ReadHasCause (before now : ℕ) (e : OctetsEnded) : Type 0 where
  pub later : before ≤ now
  pub failed : e ≡ ended.ReadFault → Rose before now

-- the sink's count never falls, and rose where a write failed
pub record WriteHasCause (before now : ℕ) (e : OctetsEnded) : Type 0 where
  pub later : before ≤ now
  pub failed : e ≡ ended.WriteFault → Rose before now

-- ---- on the way

-- the same, where a piece may end the run
pub record WritesCause (before now : ℕ) (answer : Option OctetsEnded) : Type 0 where
  pub later : before ≤ now
  pub failed : answer ≡ Some ended.WriteFault → Rose before now

-- a text was written whole, and what comes then stays; or a front of it
abbrev pub PutsText : List ℕ → Option OctetsEnded → Option (List ℕ) → Option (List ℕ) → Option OctetsEnded → Type 0
PutsText text stop held holds (Some ended.WriteFault) = StopsWriting text held holds
PutsText text stop held holds (Some ended.NoMemory) = StopsWriting text held holds
PutsText text stop held holds answer = (answer ≡ stop) × Appends held holds text

abbrev pub TurnReadCause : ℕ → ℕ → Turned → Type 0
TurnReadCause before now (turned.More n) = before ≤ now
TurnReadCause before now (turned.Over e) = ReadHasCause before now e

abbrev pub TurnWriteCause : ℕ → ℕ → Turned → Type 0
TurnWriteCause before now (turned.More n) = before ≤ now
TurnWriteCause before now (turned.Over e) = WriteHasCause before now e

-- some octets were taken, and no more than there was room for
abbrev pub TurnMoves : ℕ → Turned → Type 0
TurnMoves room (turned.More n) = (0 < n) × (n ≤ room)
TurnMoves room (turned.Over e) = Unit {0}

-- the input is at its end where the run ends well
abbrev pub TurnEnds : Option (List ℕ) → Turned → Type 0
TurnEnds remains (turned.More n) = Unit {0}
TurnEnds remains (turned.Over e) = e ≡ ended.Ok → IsAtEnd remains

-- a piece was taken, and its text written; or the run ends in it
abbrev pub Puts : OctetTool → (Course → Type 0) → Course → List ℕ → Option (List ℕ) → Option (List ℕ) → Option OctetsEnded → Type 0
Puts t stands c piece held holds None = stands (after c piece) × Appends held holds (texts t c piece)
Puts t stands c piece held holds (Some (ended.Malformed at why)) = (after c piece ≡ Ends at why) × Appends held holds (texts t c piece)
Puts t stands c piece held holds (Some ended.WriteFault) = StopsWriting (texts t c piece) held holds
Puts t stands c piece held holds (Some ended.NoMemory) = StopsWriting (texts t c piece) held holds
Puts t stands c piece held holds (Some ended.Ok) = ⊥
Puts t stands c piece held holds (Some ended.ReadFault) = ⊥
Puts t stands c piece held holds (Some ended.InputTooLong) = ⊥

-- the octets that were taken, and the room that is left
pub record Reached (t : OctetTool) (left remains held holds : Option (List ℕ)) (stage : Stage) (room : ℕ) : Type 0 where
  pub took : List ℕ
  pub consumes : Consumes left remains took
  pub counted : length took + room ≡ 2 ^ 30
  pub stands : StandsFor stage (course took)
  pub wrote : Appends held holds (output t took)

-- after one piece more, or at the end
abbrev pub Turns : OctetTool → Option (List ℕ) → Option (List ℕ) → Option (List ℕ) → Option (List ℕ) → Stage → ℕ → Turned → Type 0
Turns t left remains held holds stage room (turned.More n) = (n ≤ room → Reached t left remains held holds stage (room - n))
Turns t left remains held holds stage room (turned.Over e) = ReportsTold t left remains held holds e
