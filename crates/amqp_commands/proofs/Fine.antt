-- What was read of short enough segments has a spelling.
use Rattle.std.proofs.Common.{◌≡◌, ◌&&◌, ◌++◌, not, ℕ, true, List, Option, None, Some, Result, Ok, Err, IfOk, refl, subst}
use Rattle.std.proofs.lemmas.Bool.{and_from}
use Rattle.amqp_terms.specs.declared.command.Command.{Command}
use Rattle.amqp_terms.specs.declared.content.Content.{Content}
use Rattle.amqp_terms.specs.declared.content.HeaderItem.{HeaderItem}
use Rattle.amqp_terms.specs.declared.unit.Unit.{Unit as AnyUnit}
use Rattle.amqp_terms.specs.declared.unit.Unit.TheVariants as unit
use Rattle.amqp_structs.proofs.Fine.{header_fine as headers_fine}
use Rattle.amqp_frames.specs.declared.assembly.Segment.{Segment}
use Rattle.amqp_frames.specs.Assembly.{is_alone}
use Rattle.amqp_commands.specs.declared.error.UnitError.{UnitError}
use Rattle.amqp_commands.specs.Units.{takes_content, header_segments, body_segments, content_segments, command_fine, header_fine, content_sound, content_fine, unit_fine}
use Rattle.amqp_commands.specs.Spelled.{AllShort, PartsSpelled, ContentSpelled, UnitSpelled}

parts_sound : (header : Option (List HeaderItem)) (body : Option (List ℕ)) (segments : List Segment) → AllShort segments → PartsSpelled header body segments → header_fine header ≡ true
parts_sound None body segments short parts = refl
parts_sound (Some header) body segments short parts =
    headers_fine header parts.text parts.sound parts.spelled (subst AllShort parts.is short).0

parts_there : (header : Option (List HeaderItem)) (body : Option (List ℕ)) (segments : List Segment) → PartsSpelled header body segments → not (is_alone (header_segments header ++ body_segments body)) ≡ true
parts_there None None segments parts = absurd parts
parts_there None (Some body) segments parts = refl
parts_there (Some header) body segments parts = refl

content_is_fine : (command : Command) (content : Option Content) (segments : List Segment) → AllShort segments → ContentSpelled command content segments → content_fine command content ≡ true
content_is_fine command None segments short spelled = refl
content_is_fine command (Some content) segments short (takes, parts) =
    and_from (takes_content command) (content_sound (Some content) && not (is_alone (content_segments (Some content)))) takes
    (and_from (content_sound (Some content)) (not (is_alone (content_segments (Some content)))) (parts_sound content.header content.body segments short parts) (parts_there content.header content.body segments parts))

pub fine : (u : AnyUnit) (segments : List Segment) → AllShort segments → UnitSpelled u segments → unit_fine u ≡ true
fine (unit.Control control) segments short spelled = spelled.spelled.fine
fine (unit.Command sync command content) segments short spelled =
    and_from (command_fine command) (content_fine command content) spelled.spelled.fine (content_is_fine command content spelled.more (subst AllShort spelled.is short).1 spelled.content_spelled)

pub fine_in : (segments : List Segment) (r : Result AnyUnit UnitError) → AllShort segments → IfOk r (λ u. UnitSpelled u segments) → IfOk r (λ u. unit_fine u ≡ true)
fine_in segments (Err error) short found = tt
fine_in segments (Ok u) short found = fine u segments short found
