-- The octets of units that go out.
use Rattle.std.specs.Prelude.{ℕ, ◌&&◌, nat_lt, Bool, true, false, if◌then◌else◌, List, [], length, Option, None, Some}
use Rattle.std.specs.List.{list_all}
use Rattle.amqp_packed.specs.Spelling.{range_fine}
use Rattle.octet_reading.specs.declared.why.Why.{Why}
use Rattle.octet_reading.specs.Words.{word_of}
use Rattle.amqp_values.specs.declared.value.Range.{Range}
use Rattle.amqp_terms.specs.declared.unit.Unit.{Unit as AnyUnit}
use Rattle.amqp_terms.specs.declared.unit.Unit.TheVariants as unit
use Rattle.amqp_terms.specs.declared.control.Control.{Control}
use Rattle.amqp_terms.specs.declared.control.Control.TheVariants.{ConnectionClose, SessionAttached, SessionDetached, SessionTimeout, SessionCommandPoint, SessionExpected, SessionConfirmed, SessionCompleted, SessionKnownCompleted, SessionFlush}
use Rattle.amqp_terms.specs.declared.event.Out.{Out}
use Rattle.amqp_frames.specs.Frames.{laid}
use Rattle.amqp_commands.specs.Units.{unit_segments}

-- a unit's written spelling in frames
abbrev pub laid_unit : ℕ → AnyUnit → ℕ → List ℕ
laid_unit channel unit max_frame = laid channel (unit_segments unit) max_frame

-- ranges that have a spelling
abbrev pub ranges_fine : List Range → Bool
ranges_fine ranges = nat_lt (length ranges) 8192 && list_all range_fine ranges

-- the controls that the hub sends, where they have a spelling
abbrev pub is_said_control : Control → Bool
is_said_control (SessionAttached (Some name)) = nat_lt (length name) 65536
is_said_control (SessionDetached (Some name) (Some code)) = nat_lt (length name) 65536
is_said_control (SessionTimeout (Some timeout)) = true
is_said_control (SessionCommandPoint (Some id) (Some offset)) = true
is_said_control (SessionExpected (Some ranges) None) = ranges_fine ranges
is_said_control (SessionConfirmed (Some ranges) None) = ranges_fine ranges
is_said_control (SessionCompleted (Some ranges) false) = ranges_fine ranges
is_said_control (SessionKnownCompleted (Some ranges)) = ranges_fine ranges
is_said_control (SessionFlush expected confirmed completed) = true
is_said_control control = false

-- it sends no command yet
abbrev pub is_said : AnyUnit → Bool
is_said (unit.Control control) = is_said_control control
is_said (unit.Command sync command content) = false

-- what goes out on a connection whose negotiation is done
abbrev pub out_octets : Out → List ℕ
out_octets out = if is_said out.unit then laid_unit out.channel out.unit 65535 else []

-- connection.close, for what the peer sent
abbrev pub close_unit : Why → AnyUnit
close_unit why = unit.Control (ConnectionClose (Some 501) (Some (word_of why)))

abbrev pub close_octets : Why → List ℕ
close_octets why = laid_unit 0 (close_unit why) 65535

-- a peer that closes the connection itself isn't told why
abbrev pub closing_octets : Option Why → List ℕ
closing_octets None = []
closing_octets (Some why) = close_octets why
