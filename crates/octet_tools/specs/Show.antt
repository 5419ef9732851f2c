-- The line that `show` prints for a unit.
use Rattle.std.specs.Prelude.{ℕ, Bool, true, false, ◌&&◌, if◌then◌else◌, List, [], ◌∷◌, ◌++◌, codes, decimal, flat_map, Option, None, Some}
use Rattle.std.specs.List.{list_all}
use Rattle.hex.specs.Hex.{encode_lower}
use Rattle.uuid.specs.Text.{hyphenated_text, lower}
use Rattle.trace_words.specs.Parts.{word_of, rest_of}
use Rattle.amqp_values.specs.declared.value.Range.{Range}
use Rattle.amqp_terms.specs.declared.control.Control.{Control}
use Rattle.amqp_terms.specs.declared.command.Command.{Command}
use Rattle.amqp_terms.specs.declared.command.Command.TheVariants as m
use Rattle.amqp_terms.specs.declared.content.Content.{Content}
use Rattle.amqp_terms.specs.declared.content.HeaderItem.{HeaderItem}
use Rattle.amqp_terms.specs.declared.content.HeaderItem.TheVariants as h
use Rattle.amqp_terms.specs.declared.unit.Unit.{Unit as AnyUnit}
use Rattle.amqp_terms.specs.declared.unit.Unit.TheVariants as unit
use Rattle.amqp_packed.specs.declared.field.Field.{Field}
use Rattle.amqp_packed.specs.declared.field.Field.TheVariants as f
use Rattle.amqp_packed.specs.Spelling.{field_octets, is_there, is_fine}
use Rattle.amqp_structs.specs.Header.{delivery_fields, message_fields, is_sound}
use Rattle.amqp_commands.specs.declared.commands.CommandKind.{CommandKind}
use Rattle.amqp_commands.specs.Terms.{control_kind_of, control_fields, command_kind_of, command_fields}
use Rattle.octet_tools.specs.Words.{control_words, command_words, delivery_words, message_words}

-- octets in lower-case hex, none as `-`
abbrev pub shown : List ℕ → List ℕ
shown [] = codes "-"
shown (octet ∷ octets) = encode_lower (octet ∷ octets)

abbrev pub range_text : Range → List ℕ
range_text range = decimal range.lower ++ codes "-" ++ decimal range.upper

-- ranges joined by commas, none as `-`
abbrev pub ranges_text : List Range → List ℕ
ranges_text [] = codes "-"
ranges_text (range ∷ ranges) = range_text range ++ flat_map (λ r. codes "," ++ range_text r) ranges

-- a number in decimal, a text or octets in hex, a uuid hyphenated; of a value or a struct its packed octets in hex
abbrev pub value_text : Field → List ℕ
value_text f.Absent = []
value_text f.Bit = []
value_text (f.U8 n) = decimal n
value_text (f.U16 n) = decimal n
value_text (f.U32 n) = decimal n
value_text (f.U64 n) = decimal n
value_text (f.Str8 text) = shown text
value_text (f.Str16 text) = shown text
value_text (f.Vbin8 octets) = shown octets
value_text (f.Vbin16 octets) = shown octets
value_text (f.Vbin32 octets) = shown octets
value_text (f.Uuid octets) = hyphenated_text lower octets
value_text (f.Datetime n) = decimal n
value_text (f.Map value) = encode_lower (field_octets (f.Map value))
value_text (f.Array value) = encode_lower (field_octets (f.Array value))
value_text (f.Ranges ranges) = ranges_text ranges
value_text (f.Struct32 octets) = encode_lower (field_octets (f.Struct32 octets))
value_text (f.Xid xid) = encode_lower (field_octets (f.Xid xid))
value_text (f.ReplyTo reply) = encode_lower (field_octets (f.ReplyTo reply))

-- a bit is its name alone
abbrev pub is_bit : Field → Bool
is_bit f.Bit = true
is_bit field = false

abbrev pub field_text : List ℕ → Field → List ℕ
field_text name field = if is_bit field then name else name ++ codes "=" ++ value_text field

-- what follows the first word
abbrev pub later : Option (List ℕ) → List ℕ
later None = []
later (Some words) = words

-- those that are present, by their names; a blank stands before each, but for the first where none leads
abbrev pub lead : Bool → List ℕ
lead blank = if blank then codes " " else []

abbrev pub fields_text : Bool → List ℕ → List Field → List ℕ
fields_text blank words [] = []
fields_text blank words (field ∷ fields) =
    if is_there field then lead blank ++ field_text (word_of words) field ++ fields_text true (later (rest_of words)) fields
    else fields_text blank (later (rest_of words)) fields

-- the name first
abbrev pub named_text : List ℕ → Bool → List Field → List ℕ
named_text words sync fields = word_of words ++ (if sync then codes " sync" else []) ++ fields_text true (later (rest_of words)) fields

abbrev pub control_text : Control → List ℕ
control_text control = named_text (control_words (control_kind_of control)) false (control_fields control)

-- a listed command, or none
abbrev pub kind_text : Option CommandKind → Bool → List Field → List ℕ
kind_text None sync fields = []
kind_text (Some kind) sync fields = named_text (command_words kind) sync fields

-- of an unknown command class and code stand for the name, and its octets aren't shown
abbrev pub command_text : Bool → Command → List ℕ
command_text sync (m.Unknown class code rest) = codes "unknown " ++ decimal class ++ codes " " ++ decimal code ++ (if sync then codes " sync" else [])
command_text sync command = kind_text (command_kind_of command) sync (command_fields command)

-- a struct of a header segment, its fields between braces
abbrev pub braced_text : List ℕ → List Field → List ℕ
braced_text words fields = codes " " ++ word_of words ++ codes "{" ++ fields_text false (later (rest_of words)) fields ++ codes "}"

abbrev pub item_text : HeaderItem → List ℕ
item_text (h.Delivery d) = braced_text delivery_words (delivery_fields d)
item_text (h.Message p) = braced_text message_words (message_fields p)
item_text (h.Other class code octets) = codes " struct{" ++ decimal class ++ codes "," ++ decimal code ++ codes " " ++ shown octets ++ codes "}"

abbrev pub header_text : Option (List HeaderItem) → List ℕ
header_text None = []
header_text (Some items) = flat_map item_text items

abbrev pub body_text : Option (List ℕ) → List ℕ
body_text None = []
body_text (Some octets) = codes " body=" ++ shown octets

abbrev pub content_text : Option Content → List ℕ
content_text None = []
content_text (Some content) = header_text content.header ++ body_text content.body

abbrev pub unit_text : AnyUnit → List ℕ
unit_text (unit.Control control) = control_text control
unit_text (unit.Command sync command content) = command_text sync command ++ content_text content

-- place and channel, then the unit
abbrev pub unit_line : ℕ → ℕ → AnyUnit → List ℕ
unit_line at channel u = decimal at ++ codes " " ++ decimal channel ++ codes " " ++ unit_text u ++ codes "\n"

-- ---- what can be shown: fields that have spellings

abbrev pub header_sound : Option (List HeaderItem) → Bool
header_sound None = true
header_sound (Some items) = list_all is_sound items

abbrev pub content_sound : Option Content → Bool
content_sound None = true
content_sound (Some content) = header_sound content.header

abbrev pub unit_sound : AnyUnit → Bool
unit_sound (unit.Control control) = list_all is_fine (control_fields control)
unit_sound (unit.Command sync command content) = list_all is_fine (command_fields command) && content_sound content
