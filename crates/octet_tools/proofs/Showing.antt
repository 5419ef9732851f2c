-- What was read can be shown; listed commands are shown by their kind.
use Rattle.std.proofs.Common.{◌≡◌, ℕ, Bool, true, List, Option, None, Some, ◌∙◌, ap, sym, refl}
use Rattle.std.specs.List.{list_all}
use Rattle.std.proofs.lemmas.Bool.{and_from, and_parts}
use Rattle.amqp_terms.specs.declared.command.Command.{Command}
use Rattle.amqp_terms.specs.declared.command.Command.TheVariants as m
use Rattle.amqp_terms.specs.declared.content.Content.{Content}
use Rattle.amqp_terms.specs.declared.content.HeaderItem.{HeaderItem}
use Rattle.amqp_terms.specs.declared.unit.Unit.{Unit as AnyUnit}
use Rattle.amqp_terms.specs.declared.unit.Unit.TheVariants as unit
use Rattle.amqp_packed.specs.Spelling.{is_fine}
use Rattle.amqp_frames.specs.declared.assembly.Segment.{Segment}
use Rattle.amqp_commands.specs.declared.commands.CommandKind.{CommandKind}
use Rattle.amqp_commands.specs.Spelled.{UnitSpelled, PartsSpelled, ContentSpelled}
use Rattle.amqp_commands.specs.Terms.{command_kind_of, command_fields}
use Rattle.amqp_commands.specs.Units.{command_fine}
use Rattle.octet_tools.specs.Show.{kind_text, command_text, header_sound, content_sound, unit_sound}

-- the fields of a command that has a spelling have some
fields_fine : (command : Command) → command_fine command ≡ true → list_all is_fine (command_fields command) ≡ true
fields_fine (m.Unknown class code rest) e = refl
fields_fine command e = e

parts_sound : (header : Option (List HeaderItem)) (body : Option (List ℕ)) (segments : List Segment) → PartsSpelled header body segments → header_sound header ≡ true
parts_sound None body segments p = refl
parts_sound (Some items) body segments p = p.sound

sound_of : (command : Command) (content : Option Content) (segments : List Segment) → ContentSpelled command content segments → content_sound content ≡ true
sound_of command None segments s = refl
sound_of command (Some content) segments s = parts_sound content.header content.body segments s.1

pub spelled_sound : (u : AnyUnit) (segments : List Segment) → UnitSpelled u segments → unit_sound u ≡ true
spelled_sound (unit.Control control) segments s = s.spelled.fine
spelled_sound (unit.Command sync command content) segments s =
    and_from (list_all is_fine (command_fields command)) (content_sound content) (fields_fine command s.spelled.fine) (sound_of command content s.more s.content_spelled)

-- a listed command
pub listed_text : (sync : Bool) (command : Command) (kind : CommandKind) → command_kind_of command ≡ Some kind → kind_text (Some kind) sync (command_fields command) ≡ command_text sync command
listed_text sync (m.Unknown class code rest) kind e = absurd (cc e)
listed_text sync command kind e = ap (λ k. kind_text k sync (command_fields command)) (sym e)

-- the parts of a unit that can be shown
pub command_part : (u : AnyUnit) (sync : Bool) (command : Command) (content : Option Content) → u ≡ unit.Command sync command content → unit_sound u ≡ true → list_all is_fine (command_fields command) ≡ true
command_part u sync command content is sound = (and_parts (list_all is_fine (command_fields command)) (content_sound content) (ap unit_sound (sym is) ∙ sound)).0

pub content_part : (u : AnyUnit) (sync : Bool) (command : Command) (content : Option Content) → u ≡ unit.Command sync command content → unit_sound u ≡ true → content_sound content ≡ true
content_part u sync command content is sound = (and_parts (list_all is_fine (command_fields command)) (content_sound content) (ap unit_sound (sym is) ∙ sound)).1
