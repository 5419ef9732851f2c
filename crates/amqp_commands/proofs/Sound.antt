-- What has a spelling has parts that have one.
use Rattle.std.proofs.Common.{◌≡◌, ◌&&◌, ℕ, Bool, true, not, List, [], ◌∷◌, ◌++◌, length, drop, Option, None, Some, refl, sym, ap, ◌∙◌, arith}
use Rattle.std.proofs.lemmas.Bool.{and_parts, and_from}
use Rattle.amqp_frames.specs.declared.assembly.Segment.{Segment}
use Rattle.amqp_frames.specs.Assembly.{is_alone, follow, IsPlaced}
use Rattle.amqp_terms.specs.declared.command.Command.{Command}
use Rattle.amqp_terms.specs.declared.content.Content.{Content}
use Rattle.amqp_terms.specs.declared.content.HeaderItem.{HeaderItem}
use Rattle.amqp_terms.specs.declared.unit.Unit.{Unit as AnyUnit}
use Rattle.amqp_terms.specs.declared.unit.Unit.TheVariants as unit
use Rattle.amqp_commands.specs.Units.{takes_content, command_fine, content_sound, content_fine, header_segments, body_segments, content_segments, unit_segments, unit_fine}
use Rattle.amqp_commands.specs.Spelled.{ContentSpelled, PartsSpelled, UnitSpelled}

pub command_part : (sync : Bool) (command : Command) (content : Option Content) → unit_fine (unit.Command sync command content) ≡ true → command_fine command ≡ true
command_part sync command content h = (and_parts (command_fine command) (content_fine command content) h).0

content_is_sound : (command : Command) (content : Option Content) → content_fine command content ≡ true → content_sound content ≡ true
content_is_sound command None h = refl
content_is_sound command (Some content) h =
    (and_parts (content_sound (Some content)) (not (is_alone (content_segments (Some content)))) (and_parts (takes_content command) (content_sound (Some content) && not (is_alone (content_segments (Some content)))) h).1).0

pub content_part : (sync : Bool) (command : Command) (content : Option Content) → unit_fine (unit.Command sync command content) ≡ true → content_sound content ≡ true
content_part sync command content h = content_is_sound command content (and_parts (command_fine command) (content_fine command content) h).1

-- a unit that one segment spells has a spelling
no_content : (command : Command) (content : Option Content) (more : List Segment) → more ≡ [] → ContentSpelled command content more → content_fine command content ≡ true
no_content command None more none spelled = refl
no_content command (Some content) more none spelled = absurd (by content.header content.body spelled.1)
  where
    by : (header : Option (List HeaderItem)) (body : Option (List ℕ)) → PartsSpelled header body more → ⊥
    by None None parts = parts
    by None (Some body) parts = omega (arith, ap length (sym none ∙ parts))
    by (Some header) body parts = omega (arith, ap length (sym none ∙ parts.is))

pub alone_fine : (u : AnyUnit) (segment : Segment) → UnitSpelled u (segment ∷ []) → unit_fine u ≡ true
alone_fine (unit.Control control) segment spelled = spelled.spelled.fine
alone_fine (unit.Command sync command content) segment spelled =
    and_from (command_fine command) (content_fine command content) spelled.spelled.fine (no_content command content spelled.more (sym (ap (drop 1) spelled.is)) spelled.content_spelled)

pub placed : (u : AnyUnit) → IsPlaced (unit_segments u)
placed (unit.Control control) = refl
placed (unit.Command sync command None) = refl
placed (unit.Command sync command (Some content)) = by content.header content.body
  where
    by : (header : Option (List HeaderItem)) (body : Option (List ℕ)) → follow 1 (header_segments header ++ body_segments body) ≡ true
    by None None = refl
    by None (Some body) = refl
    by (Some header) None = refl
    by (Some header) (Some body) = refl
