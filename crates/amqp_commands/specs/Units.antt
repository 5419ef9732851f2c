-- Units as segments (AMQP 0-10, "transport", "segments"): what octets spell, and how units are written.
use Rattle.std.specs.Prelude.{◌≡◌, ℕ, ◌-◌, ◌==◌, ◌&&◌, ◌||◌, nat_lt, is_some, not, Bool, true, false, if◌then◌else◌, List, [], ◌∷◌, ◌++◌, length, drop, slice_index, Option, None, Some, Result, Ok, Err}
use Rattle.std.specs.List.{list_all}
use Rattle.octet_reading.specs.declared.why.Why.TheVariants.{UnknownClass, UnknownControl, BadSessionHeader, TrailingOctets, ContentNotAllowed}
use Rattle.octet_reading.specs.declared.flaw.Flaw.{Flaw}
use Rattle.octet_reading.specs.Reading.{Taken, ◌>>=◌, check, flaw_at, part_at}
use Rattle.amqp_terms.specs.declared.control.Control.{Control}
use Rattle.amqp_terms.specs.declared.command.Command.{Command}
use Rattle.amqp_terms.specs.declared.command.Command.TheVariants as m
use Rattle.amqp_terms.specs.declared.content.Content.{Content}
use Rattle.amqp_terms.specs.declared.content.HeaderItem.{HeaderItem}
use Rattle.amqp_terms.specs.declared.unit.Unit.{Unit as AnyUnit}
use Rattle.amqp_terms.specs.declared.unit.Unit.TheVariants as unit
use Rattle.amqp_packed.specs.Reading.{all_fields_at}
use Rattle.amqp_packed.specs.Spelling.{packed, is_fine}
use Rattle.amqp_structs.specs.Header.{header_in, header_octets, has_spelling}
use Rattle.amqp_structs.specs.Results.{known}
use Rattle.amqp_frames.specs.declared.assembly.Segment.{Segment}
use Rattle.amqp_frames.specs.Assembly.{is_alone}
use Rattle.octet_reading.specs.declared.flaw.ReadError.{ReadError}
use Rattle.octet_reading.specs.declared.flaw.ReadError.TheVariants as error
use Rattle.amqp_commands.specs.declared.controls.ControlKind.{ControlKind}
use Rattle.amqp_commands.specs.declared.commands.CommandKind.{CommandKind}
use Rattle.amqp_commands.specs.declared.error.UnitFault.{UnitFault}
use Rattle.amqp_commands.specs.declared.error.UnitError.{UnitError}
use Rattle.amqp_commands.specs.declared.error.UnitError.TheVariants as refused
use Rattle.amqp_commands.specs.Kinds.{is_control_class, control_class, control_code, control_kind, control_table, is_command_class, command_class, command_code, command_kind, command_table}
use Rattle.amqp_commands.specs.Terms.{control_kind_of, control_fields, control_by, command_kind_of, command_fields, command_by}

-- ---- reading

-- the segment of a control: class, code, fields
unfoldable pub control_in : List ℕ → Result Control Flaw
control_in octets = do
  head ← part_at octets octets 2
  _ ← check (is_control_class (slice_index octets 0)) (flaw_at UnknownClass octets)
  kind ← known (flaw_at UnknownControl (drop 1 octets)) (control_kind (slice_index octets 0) (slice_index octets 1))
  fields ← all_fields_at TrailingOctets (control_table kind) head.1
  Ok (control_by kind fields)

-- the session header: whether completion is asked for at once
unfoldable pub session_header_at : List ℕ → Taken Bool
session_header_at octets = do
  part ← part_at octets octets 2
  _ ← check ((slice_index octets 0 == 1) && nat_lt (slice_index octets 1) 2) (flaw_at BadSessionHeader octets)
  Ok (slice_index octets 1 == 1, part.1)

-- the command of a kind, or an unknown one
unfoldable pub command_of : ℕ → ℕ → List ℕ → Option CommandKind → Result Command Flaw
command_of class code octets None = Ok (m.Unknown class code octets)
command_of class code octets (Some kind) = do
  fields ← all_fields_at TrailingOctets (command_table kind) octets
  Ok (command_by kind fields)

-- the segment of a command: class, code, session header, fields
unfoldable pub command_in : List ℕ → Result (Bool × Command) Flaw
command_in octets = do
  head ← part_at octets octets 2
  _ ← check (is_command_class (slice_index octets 0)) (flaw_at UnknownClass octets)
  sync ← session_header_at head.1
  command ← command_of (slice_index octets 0) (slice_index octets 1) sync.1 (command_kind (slice_index octets 0) (slice_index octets 1))
  Ok (sync.0, command)

-- a flaw by its segment, from 0, and the index within it
abbrev pub in_segment : {A : Type 0} → ℕ → List ℕ → Result A Flaw → Result A UnitFault
in_segment n octets (Ok x) = Ok x
in_segment n octets (Err flaw) = Err (record { segment = n; at = length octets - flaw.left; why = flaw.why })

-- message.transfer and unknown commands may have content
abbrev pub takes_content : Command → Bool
takes_content (m.MessageTransfer destination accept_mode acquire_mode) = true
takes_content (m.Unknown class code rest) = true
takes_content command = false

-- a body, after a header or none
abbrev pub body_of : List Segment → Option (List ℕ)
body_of [] = None
body_of (segment ∷ segments) = Some segment.octets

abbrev pub with_header : List Segment → Result (List HeaderItem) UnitFault → Result (Option Content) UnitFault
with_header segments (Ok header) = Ok (Some (record { header = Some header; body = body_of segments }))
with_header segments (Err fault) = Err fault

-- the content that the segments after the first hold
abbrev pub content_in : List Segment → Result (Option Content) UnitFault
content_in [] = Ok None
content_in (segment ∷ segments) =
    if segment.kind == 2 then with_header segments (in_segment 1 segment.octets (header_in segment.octets)) else Ok (Some (record { header = None; body = Some segment.octets }))

abbrev pub with_content : Bool → Command → Result (Option Content) UnitFault → Result AnyUnit UnitFault
with_content sync command (Ok content) = Ok (unit.Command sync command content)
with_content sync command (Err fault) = Err fault

-- the first segment is read whole before content is looked at
abbrev pub after_command : Bool → Command → List Segment → Result AnyUnit UnitFault
after_command sync command segments =
    if is_alone segments || takes_content command then with_content sync command (content_in segments) else Err (record { segment = 1; at = 0; why = ContentNotAllowed })

abbrev pub command_unit : List Segment → Result (Bool × Command) UnitFault → Result AnyUnit UnitFault
command_unit segments (Ok (sync, command)) = after_command sync command segments
command_unit segments (Err fault) = Err fault

abbrev pub control_unit : Result Control UnitFault → Result AnyUnit UnitFault
control_unit (Ok control) = Ok (unit.Control control)
control_unit (Err fault) = Err fault

-- the unit of an assembly, or the first fault; an assembly without segments is read as one whose first is empty
abbrev pub unit_by : ℕ → List ℕ → List Segment → Result AnyUnit UnitFault
unit_by kind octets segments =
    if kind == 0 then control_unit (in_segment 0 octets (control_in octets)) else command_unit segments (in_segment 0 octets (command_in octets))

abbrev pub unit_in : List Segment → Result AnyUnit UnitFault
unit_in [] = unit_by 1 [] []
unit_in (segment ∷ segments) = unit_by segment.kind segment.octets segments

-- an error of reading a segment, as a unit's
abbrev pub FaultIs : ℕ → List ℕ → ReadError → UnitError → Type 0
FaultIs n octets error.Memory fault = fault ≡ refused.NoMemory
FaultIs n octets (error.Flaw flaw) fault = fault ≡ refused.Bad (record { segment = n; at = length octets - flaw.left; why = flaw.why })

-- the answer is this one, unless memory was wanting
abbrev pub Answers : {X : Type 0} → Result X UnitError → Result X UnitFault → Type 0
Answers (Ok x) read = read ≡ Ok x
Answers (Err (refused.Bad fault)) read = read ≡ Err fault
Answers (Err refused.NoMemory) read = Unit {0}

-- ---- writing

abbrev pub control_head : ControlKind → List ℕ
control_head kind = control_class kind ∷ control_code kind ∷ []

abbrev pub control_octets : Control → List ℕ
control_octets control = control_head (control_kind_of control) ++ packed (control_fields control)

-- class, code and session header
abbrev pub command_head : ℕ → ℕ → Bool → List ℕ
command_head class code sync = class ∷ code ∷ 1 ∷ (if sync then 1 else 0) ∷ []

abbrev pub kind_octets : Bool → List ℕ → Option CommandKind → List ℕ
kind_octets sync args None = []
kind_octets sync args (Some kind) = command_head (command_class kind) (command_code kind) sync ++ args

abbrev pub command_octets : Bool → Command → List ℕ
command_octets sync (m.Unknown class code rest) = command_head class code sync ++ rest
command_octets sync command = kind_octets sync (packed (command_fields command)) (command_kind_of command)

abbrev pub header_segments : Option (List HeaderItem) → List Segment
header_segments None = []
header_segments (Some header) = record { kind = 2; octets = header_octets header } ∷ []

abbrev pub body_segments : Option (List ℕ) → List Segment
body_segments None = []
body_segments (Some body) = record { kind = 3; octets = body } ∷ []

abbrev pub content_segments : Option Content → List Segment
content_segments None = []
content_segments (Some content) = header_segments content.header ++ body_segments content.body

-- a unit is written as these segments
abbrev pub unit_segments : AnyUnit → List Segment
unit_segments (unit.Control control) = record { kind = 0; octets = control_octets control } ∷ []
unit_segments (unit.Command sync command content) = record { kind = 1; octets = command_octets sync command } ∷ content_segments content

-- an unknown command has a listed class and a code that isn't listed
abbrev pub command_fine : Command → Bool
command_fine (m.Unknown class code rest) = (is_command_class class && nat_lt code 256) && not (is_some (command_kind class code))
command_fine command = list_all is_fine (command_fields command)

abbrev pub header_fine : Option (List HeaderItem) → Bool
header_fine None = true
header_fine (Some header) = list_all has_spelling header

abbrev pub content_sound : Option Content → Bool
content_sound None = true
content_sound (Some content) = header_fine content.header

-- content has a header or a body, and stands where it may
abbrev pub content_fine : Command → Option Content → Bool
content_fine command None = true
content_fine command (Some content) = takes_content command && (content_sound (Some content) && not (is_alone (content_segments (Some content))))

-- a unit has a spelling
abbrev pub unit_fine : AnyUnit → Bool
unit_fine (unit.Control control) = list_all is_fine (control_fields control)
unit_fine (unit.Command sync command content) = command_fine command && content_fine command content
