-- What the octets of one direction of a connection are to a tool, octet by octet.
use Rattle.std.specs.Prelude.{ℕ, ◌+◌, ◌≤◌, ◌++◌, nat_lt, bytes_eq, if◌then◌else◌, List, [], ◌∷◌, length, fold, Option, None, Some, Result, Ok, Err}
use Rattle.octet_reading.specs.declared.why.Why.{Why}
use Rattle.amqp_terms.specs.declared.unit.Unit.{Unit as AnyUnit}
use Rattle.amqp_frames.specs.declared.done.Done.{Done}
use Rattle.amqp_frames.specs.Cut.{Cutting, Cuts, Faults, cut, whole}
use Rattle.amqp_frames.specs.Frames.{laid}
use Rattle.amqp_commands.specs.declared.error.UnitFault.{UnitFault}
use Rattle.amqp_commands.specs.Units.{unit_in}
use Rattle.octet_tools.specs.declared.tool.OctetTool.{OctetTool}
use Rattle.octet_tools.specs.declared.tool.OctetTool.TheVariants as tool
use Rattle.octet_tools.specs.Show.{unit_line}

-- `AMQP`, class 1, instance 1, version 0-10
abbrev pub protocol_header : List ℕ
protocol_header = 65 ∷ 77 ∷ 81 ∷ 80 ∷ 1 ∷ 1 ∷ 0 ∷ 10 ∷ []

-- no frame has more octets
abbrev pub limits : ℕ → ℕ
limits place = 65535

-- ---- what an octet brings

pub data Brings : Type 0 where
  Nothing : Brings
  Gives : (done : Done) → (unit : AnyUnit) → Brings
  Breaks : (at : ℕ) → (why : Why) → Brings

-- an assembly that is a unit, or its first fault, at the place of its first octet
abbrev pub unit_brings : Done → Result AnyUnit UnitFault → Brings
unit_brings done (Ok unit) = Gives done unit
unit_brings done (Err fault) = Breaks done.at fault.why

abbrev pub done_brings : Option Done → Brings
done_brings None = Nothing
done_brings (Some done) = unit_brings done (unit_in done.assembly)

-- an octet that brought the frames here
abbrev pub brings : Cutting → Brings
brings (Cuts frames rest) = done_brings (whole (Cuts frames rest))
brings (Faults frames at why) = Breaks at why

-- ---- the course of the octets

-- fewer than eight came; or frames, the first at this place, with the octets since; or the first fault came, and nothing after it counts
pub data Course : Type 0 where
  Opens : (octets : List ℕ) → Course
  Runs : (first : ℕ) → (octets : List ℕ) → Course
  Ends : (at : ℕ) → (why : Why) → Course

abbrev pub stays : ℕ → List ℕ → Brings → Course
stays first octets Nothing = Runs first octets
stays first octets (Gives done unit) = Runs first octets
stays first octets (Breaks at why) = Ends at why

-- the first eight: a protocol header, behind which the frames begin; or octets of frames
abbrev pub opened : List ℕ → Course
opened octets = if bytes_eq octets protocol_header then Runs 8 [] else Runs 0 octets

abbrev pub next : Course → ℕ → Course
next (Opens octets) octet = if nat_lt (length octets + 1) 8 then Opens (octets ++ octet ∷ []) else opened (octets ++ octet ∷ [])
next (Runs first octets) octet = stays first (octets ++ octet ∷ []) (brings (cut limits first (octets ++ octet ∷ [])))
next (Ends at why) octet = Ends at why

-- further octets
abbrev pub after : Course → List ℕ → Course
after course octets = fold next course octets

-- all octets
abbrev pub course : List ℕ → Course
course octets = after (Opens []) octets

-- ---- what is written

-- `show` writes a line for a unit, `reframe` the assembly again
abbrev pub done_text : OctetTool → Done → AnyUnit → List ℕ
done_text tool.Show done unit = unit_line done.at done.channel unit
done_text (tool.Reframe max_frame) done unit = laid done.channel done.assembly max_frame

abbrev pub brings_text : OctetTool → Brings → List ℕ
brings_text t Nothing = []
brings_text t (Gives done unit) = done_text t done unit
brings_text t (Breaks at why) = []

-- a protocol header is passed on by `reframe`
abbrev pub opened_text : OctetTool → List ℕ → List ℕ
opened_text tool.Show octets = []
opened_text (tool.Reframe max_frame) octets = if bytes_eq octets protocol_header then protocol_header else []

-- for one octet
abbrev pub text : OctetTool → Course → ℕ → List ℕ
text t (Opens octets) octet = if nat_lt (length octets + 1) 8 then [] else opened_text t (octets ++ octet ∷ [])
text t (Runs first octets) octet = brings_text t (brings (cut limits first (octets ++ octet ∷ [])))
text t (Ends at why) octet = []

-- for further octets
abbrev pub texts : OctetTool → Course → List ℕ → List ℕ
texts t c [] = []
texts t c (octet ∷ octets) = text t c octet ++ texts t (next c octet) octets

-- for all of them
abbrev pub output : OctetTool → List ℕ → List ℕ
output t octets = texts t (Opens []) octets

-- the first fault, if one came
abbrev pub fault_of : Course → Option (ℕ × Why)
fault_of (Opens octets) = None
fault_of (Runs first octets) = None
fault_of (Ends at why) = Some (at, why)

-- a largest frame may be asked for
abbrev pub MayRun : OctetTool → Type 0
MayRun tool.Show = Unit {0}
MayRun (tool.Reframe max_frame) = 4096 ≤ max_frame
