-- The segments that may spell a unit: those that are written, and others where an xid or a reply-to leaves fields out.
use Rattle.std.specs.Prelude.{◌≡◌, ◌<◌, length, ℕ, Bool, true, List, [], ◌∷◌, ◌++◌, Option, None, Some}
use Rattle.std.specs.List.{list_all}
use Rattle.octet_reading.specs.Reading.{IsBytes}
use Rattle.amqp_terms.specs.declared.control.Control.{Control}
use Rattle.amqp_terms.specs.declared.command.Command.{Command}
use Rattle.amqp_terms.specs.declared.command.Command.TheVariants as m
use Rattle.amqp_terms.specs.declared.content.Content.{Content}
use Rattle.amqp_terms.specs.declared.content.HeaderItem.{HeaderItem}
use Rattle.amqp_terms.specs.declared.unit.Unit.{Unit as AnyUnit}
use Rattle.amqp_terms.specs.declared.unit.Unit.TheVariants as unit
use Rattle.amqp_packed.specs.Spelling.{is_fine}
use Rattle.amqp_packed.specs.Spelled.{Packs}
use Rattle.amqp_structs.specs.Header.{is_sound}
use Rattle.amqp_structs.specs.Spelled.{HeaderSpelled}
use Rattle.amqp_frames.specs.declared.assembly.Segment.{Segment}
use Rattle.amqp_commands.specs.declared.commands.CommandKind.{CommandKind}
use Rattle.amqp_commands.specs.Kinds.{command_class, command_code}
use Rattle.amqp_commands.specs.Terms.{control_kind_of, control_fields, command_kind_of, command_fields}
use Rattle.amqp_commands.specs.Units.{control_head, command_head, takes_content, body_segments, command_fine}

-- each octet of each segment is below 256
abbrev pub AllBytes : List Segment → Type 0
AllBytes [] = Unit {0}
AllBytes (segment ∷ segments) = IsBytes segment.octets × AllBytes segments

-- each segment has fewer than 2^31 octets
abbrev pub AllShort : List Segment → Type 0
AllShort [] = Unit {0}
AllShort (segment ∷ segments) = (length segment.octets < 2147483648) × AllShort segments

-- the segment of a control: class, code and octets that spell its fields, which have spellings
pub record ControlSpelled (control : Control) (octets : List ℕ) : Type 0 where
  pub text : List ℕ
  pub is : octets ≡ control_head (control_kind_of control) ++ text
  pub packs : Packs (control_fields control) text []
  pub fine : list_all is_fine (control_fields control) ≡ true

-- what follows the session header of a listed command
pub record FieldsSpelled (class code : ℕ) (command : Command) (octets : List ℕ) : Type 0 where
  pub kind : CommandKind
  pub is : command_kind_of command ≡ Some kind
  pub class_is : command_class kind ≡ class
  pub code_is : command_code kind ≡ code
  pub packs : Packs (command_fields command) octets []

-- and of an unknown one
pub record RestIs (class code class' code' : ℕ) (rest octets : List ℕ) : Type 0 where
  pub class_is : class' ≡ class
  pub code_is : code' ≡ code
  pub rest_is : rest ≡ octets

abbrev pub ArgsSpelled : ℕ → ℕ → Command → List ℕ → Type 0
ArgsSpelled class code (m.Unknown class' code' rest) octets = RestIs class code class' code' rest octets
ArgsSpelled class code command octets = FieldsSpelled class code command octets

-- the segment of a command: class, code, session header, and what follows it
pub record CommandSpelled (sync : Bool) (command : Command) (octets : List ℕ) : Type 0 where
  pub class : ℕ
  pub code : ℕ
  pub text : List ℕ
  pub is : octets ≡ command_head class code sync ++ text
  pub args : ArgsSpelled class code command text
  pub fine : command_fine command ≡ true

-- a header segment, and a body after it or none
pub record HeaderAnd (header : List HeaderItem) (body : Option (List ℕ)) (segments : List Segment) : Type 0 where
  pub text : List ℕ
  pub spelled : HeaderSpelled header text
  pub sound : list_all is_sound header ≡ true
  pub is : segments ≡ record { kind = 2; octets = text } ∷ body_segments body

abbrev pub PartsSpelled : Option (List HeaderItem) → Option (List ℕ) → List Segment → Type 0
PartsSpelled None None segments = ⊥
PartsSpelled None (Some body) segments = segments ≡ record { kind = 3; octets = body } ∷ []
PartsSpelled (Some header) body segments = HeaderAnd header body segments

-- content has a header or a body, where the command may have it
abbrev pub ContentSpelled : Command → Option Content → List Segment → Type 0
ContentSpelled command None segments = segments ≡ []
ContentSpelled command (Some content) segments = (takes_content command ≡ true) × PartsSpelled content.header content.body segments

-- the first segment, and those of the content
pub record ControlIs (control : Control) (segments : List Segment) : Type 0 where
  pub octets : List ℕ
  pub spelled : ControlSpelled control octets
  pub is : segments ≡ record { kind = 0; octets = octets } ∷ []

pub record CommandIs (sync : Bool) (command : Command) (content : Option Content) (segments : List Segment) : Type 0 where
  pub octets : List ℕ
  pub more : List Segment
  pub spelled : CommandSpelled sync command octets
  pub content_spelled : ContentSpelled command content more
  pub is : segments ≡ record { kind = 1; octets = octets } ∷ more

abbrev pub UnitSpelled : AnyUnit → List Segment → Type 0
UnitSpelled (unit.Control control) segments = ControlIs control segments
UnitSpelled (unit.Command sync command content) segments = CommandIs sync command content segments
