-- What the octets of a connection bring: units for the hub, or the connection's end.
use Rattle.std.specs.Prelude.{ℕ, ◌+◌, Bool, true, false, List, [], ◌∷◌, fold, Option, None, Some, Result, Ok, Err}
use Rattle.amqp_terms.specs.declared.unit.Unit.{Unit as AnyUnit}
use Rattle.amqp_commands.specs.declared.error.UnitFault.{UnitFault}
use Rattle.amqp_commands.specs.Units.{unit_in}
use Rattle.amqp_frames.specs.declared.done.Done.{Done}
use Rattle.amqp_frames.specs.Cut.{Cutting, Cuts, Faults, cut_octet, whole}
use Rattle.broker_engine.specs.declared.intake.Closing.{Closing}

-- what one octet brings
pub data Brings : Type 0 where
  Nothing : Brings
  Passes : (channel : ℕ) → (unit : AnyUnit) → Brings
  Closes : (closing : Closing) → Brings

-- the unit of an assembly whose first frame has this place, or its first fault
abbrev pub unit_brings : ℕ → ℕ → Result AnyUnit UnitFault → Brings
unit_brings channel at (Ok unit) = Passes channel unit
unit_brings channel at (Err fault) = Closes (record { at = at; segment = Some (fault.segment, fault.at); why = Some fault.why })

abbrev pub done_brings : Option Done → Brings
done_brings None = Nothing
done_brings (Some done) = unit_brings done.channel done.at (unit_in done.assembly)

-- an octet that brought the frames here
abbrev pub brings : Cutting → Brings
brings (Cuts frames rest) = done_brings (whole (Cuts frames rest))
brings (Faults frames at why) = Closes (record { at = at; segment = None; why = Some why })

-- a connection is open, its octets cut into frames; or it is Closed, and nothing that follows is heard
pub data Talk : Type 0 where
  Open : (cutting : Cutting) → Talk
  Shut : Talk

abbrev pub stays : Brings → Cutting → Talk
stays Nothing cutting = Open cutting
stays (Passes channel unit) cutting = Open cutting
stays (Closes closing) cutting = Shut

-- a connection whose negotiation is done: its first octet has place 0, and no frame is larger than 65,535
abbrev pub next_cutting : Cutting → ℕ → Cutting
next_cutting cutting octet = cut_octet (λ place. 65535) 0 cutting octet

abbrev pub talk_octet : Talk → ℕ → Talk
talk_octet (Open cutting) octet = stays (brings (next_cutting cutting octet)) (next_cutting cutting octet)
talk_octet Shut octet = Shut

abbrev pub brings_octet : Talk → ℕ → Brings
brings_octet (Open cutting) octet = brings (next_cutting cutting octet)
brings_octet Shut octet = Nothing

-- after all octets of its peer
abbrev pub talk : List ℕ → Talk
talk octets = fold talk_octet (Open (Cuts [] [])) octets

abbrev pub is_shut : Talk → Bool
is_shut (Open cutting) = false
is_shut Shut = true

-- the first that further octets bring, and how many of them bring it
pub data Says : Type 0 where
  Waits : Says
  Tells : (taken : ℕ) → (channel : ℕ) → (unit : AnyUnit) → Says
  Ends : (closing : Closing) → Says

abbrev pub one_later : Says → Says
one_later Waits = Waits
one_later (Tells taken channel unit) = Tells (taken + 1) channel unit
one_later (Ends closing) = Ends closing

abbrev pub says_first : Brings → Says → Says
says_first Nothing later = one_later later
says_first (Passes channel unit) later = Tells 1 channel unit
says_first (Closes closing) later = Ends closing

abbrev pub says : Talk → List ℕ → Says
says t [] = Waits
says t (octet ∷ octets) = says_first (brings_octet t octet) (says (talk_octet t octet) octets)
