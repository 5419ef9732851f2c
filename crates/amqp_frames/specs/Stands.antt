-- What an assembler stands for: the octets that it took, cut into frames.
use Rattle.std.specs.Prelude.{◌≡◌, nat_lt, IfSome, Option, ℕ, ◌+◌, ◌*◌, ◌^◌, ◌<◌, ◌≤◌, true, if◌then◌else◌, List, [], ◌∷◌, ◌++◌, length, take, ◌⊎◌, None, Some, Result, Ok, Err}
use Rattle.octet_reading.specs.declared.memory.NoMemory.{NoMemory}
use Rattle.amqp_frames.specs.declared.done.Done.{Done}
use Rattle.amqp_frames.specs.declared.done.Fed.{Fed}
use Rattle.amqp_frames.specs.declared.done.FrameFault.{FrameFault}
use Rattle.amqp_frames.specs.declared.done.FrameError.{FrameError}
use Rattle.amqp_frames.specs.declared.done.FrameError.TheVariants as error
use Rattle.amqp_frames.specs.declared.assembler.Assembler.{Assembler}
use Rattle.amqp_frames.specs.declared.assembler.Step.{Step}
use Rattle.amqp_frames.specs.declared.assembler.Step.TheVariants as step
use Rattle.amqp_frames.specs.Assembly.{IsPlaced}
use Rattle.amqp_frames.specs.Cut.{Frame, Cutting, Cuts, Faults, header_at, frame_of, is_on, open_on, open_size, payload_of_header, place_after, cut, cut_on, whole, is_quiet, all_quiet}
use Rattle.amqp_frames.specs.Frames.{track}
use Rattle.amqp_frames.specs.Kept.{kept}
use Rattle.amqp_frames.specs.Lane.{lane_of}
use Rattle.amqp_frames.specs.Touched.{lane_in, undone, InReach}

-- the open frames of a channel and track, the one at hand among them
abbrev pub open_with : ℕ → List Frame → List ℕ → ℕ → ℕ → List Frame
open_with at frames rest channel on_track =
    if is_on channel on_track (header_at rest) then frame_of at rest ∷ open_on channel on_track frames else open_on channel on_track frames

-- whole frames, and a part of a header
pub record Between (a : Assembler) (limits : ℕ → ℕ) (first : ℕ) (frames : List Frame) (rest : List ℕ) : Type 0 where
  pub faultless : a.fault ≡ None
  pub at_is : a.front.at ≡ place_after first frames
  pub short : length rest < 12
  pub partial_is : a.partial ≡ rest
  pub need_is : a.front.need ≡ 0
  pub lanes_are : (channel on_track : ℕ) → on_track ≤ 1 → lane_in a.lanes.items (2 * channel + on_track) ≡ lane_of on_track (open_on channel on_track frames)
  pub unfinished_is : a.front.unfinished ≡ open_size frames
  pub limit_is : (p : ℕ) → place_after first frames ≤ p → limits p ≡ a.max_frame

-- whole frames, and a header with a part of its payload
pub record Within (a : Assembler) (limits : ℕ → ℕ) (first : ℕ) (frames : List Frame) (rest : List ℕ) : Type 0 where
  pub faultless : a.fault ≡ None
  pub at_is : a.front.at ≡ place_after first frames
  pub near : a.front.at < 2 ^ 62
  pub long : 12 ≤ length rest
  pub partial_is : a.partial ≡ []
  pub header_is : a.front.header ≡ header_at rest
  pub kind_low : a.front.header.kind ≤ 3
  pub track_is : a.front.header.track ≡ track a.front.header.kind
  pub size_low : a.front.header.size < 2 ^ 16
  pub need_is : a.front.need + length rest ≡ a.front.header.size
  pub lanes_are : (channel on_track : ℕ) → on_track ≤ 1 → lane_in a.lanes.items (2 * channel + on_track) ≡ lane_of on_track (open_with a.front.at frames rest channel on_track)
  pub unfinished_is : a.front.unfinished ≡ open_size frames + payload_of_header a.front.header
  pub limit_is : (p : ℕ) → place_after first frames < p → limits p ≡ a.max_frame

-- the assembler is where the cut is, and keeps no octets after a fault
abbrev pub StandsAs : Assembler → (ℕ → ℕ) → ℕ → Cutting → Type 0
StandsAs a limits first (Cuts frames rest) = Between a limits first frames rest ⊎ (Within a limits first frames rest × (0 < a.front.need))
StandsAs a limits first (Faults frames at why) = (a.fault ≡ Some (record { at = at; why = why })) × (kept a ≡ 0)

-- it took these octets, for the largest frame at each place
abbrev pub Stands : Assembler → (ℕ → ℕ) → ℕ → List ℕ → Type 0
Stands a limits first octets = StandsAs a limits first (cut limits first octets)

-- ---- one octet

abbrev pub After : Assembler → (ℕ → ℕ) → ℕ → Cutting → Result Step NoMemory → Type 0
After a limits first cutting (Ok step.Quiet) = (is_quiet cutting ≡ true) × StandsAs a limits first cutting
After a limits first cutting (Ok (step.Done done)) = (whole cutting ≡ Some done) × StandsAs a limits first cutting
After a limits first cutting (Ok (step.Bad fault)) = (frames : List Frame) × (cutting ≡ Faults frames fault.at fault.why)
After a limits first cutting (Err none) = Unit {0}

-- ---- further octets

-- nothing came of them but with the last
pub record Run (limits : ℕ → ℕ) (first : ℕ) (cutting : Cutting) (octets : List ℕ) : Type 0 where
  pub front : List ℕ
  pub octet : ℕ
  pub parts : octets ≡ front ++ octet ∷ []
  pub before : all_quiet limits first cutting front ≡ true

-- an assembly ended with the last of them
pub record Gives (limits : ℕ → ℕ) (first : ℕ) (cutting : Cutting) (octets : List ℕ) (done : Done) : Type 0 where
  pub run : Run limits first cutting octets
  pub gives : whole (cut_on limits first cutting octets) ≡ Some done

-- a fault came with the last of them
pub record Refuses (limits : ℕ → ℕ) (first : ℕ) (cutting : Cutting) (octets : List ℕ) (fault : FrameFault) : Type 0 where
  pub run : Run limits first cutting octets
  pub frames : List Frame
  pub refuses : cut_on limits first cutting octets ≡ Faults frames fault.at fault.why

abbrev pub Took : Assembler → (ℕ → ℕ) → ℕ → Cutting → List ℕ → Result Step NoMemory → Type 0
Took a limits first cutting octets (Ok step.Quiet) = (all_quiet limits first cutting octets ≡ true) × StandsAs a limits first (cut_on limits first cutting octets)
Took a limits first cutting octets (Ok (step.Done done)) = Gives limits first cutting octets done × StandsAs a limits first (cut_on limits first cutting octets)
Took a limits first cutting octets (Ok (step.Bad fault)) = Refuses limits first cutting octets fault
Took a limits first cutting octets (Err none) = Unit {0}

-- ---- taking back

-- what can be taken back now is what could be before
pub record KeepsLog (old new : Assembler) : Type 0 where
  pub max_is : new.max_frame ≡ old.max_frame
  pub fault_is : new.fault ≡ old.fault
  pub undone_is : (i : ℕ) → undone new.log.items (lane_in new.lanes.items) i ≡ undone old.log.items (lane_in old.lanes.items) i
  pub reach : InReach old.log.items old.lanes.items → InReach new.log.items new.lanes.items

-- so it is unless an assembly was handed out
abbrev pub LogKept : Assembler → Assembler → Result Step NoMemory → Type 0
LogKept old new (Ok step.Quiet) = KeepsLog old new
LogKept old new (Ok (step.Done done)) = Unit {0}
LogKept old new (Ok (step.Bad fault)) = KeepsLog old new
LogKept old new (Err none) = KeepsLog old new

-- ---- a piece

-- an assembly ended with the last octet that was taken; or all were, and none ended
abbrev pub Comes : (ℕ → ℕ) → ℕ → Cutting → List ℕ → ℕ → Option Done → Type 0
Comes limits first cutting piece taken None = (taken ≡ length piece) × (all_quiet limits first cutting piece ≡ true)
Comes limits first cutting piece taken (Some done) = Gives limits first cutting (take taken piece) done

pub record TakesPiece (a : Assembler) (limits : ℕ → ℕ) (first : ℕ) (cutting : Cutting) (piece : List ℕ) (fed : Fed) : Type 0 where
  pub stands : StandsAs a limits first (cut_on limits first cutting (take fed.taken piece))
  pub comes : Comes limits first cutting piece fed.taken fed.done

-- the fault came within the piece
pub record RefusesPiece (limits : ℕ → ℕ) (first : ℕ) (cutting : Cutting) (piece : List ℕ) (fault : FrameFault) : Type 0 where
  pub part : List ℕ
  pub more : List ℕ
  pub parts : piece ≡ part ++ more
  pub refuses : Refuses limits first cutting part fault

-- what a piece gives where no fault came before
abbrev pub TookPiece : Assembler → (ℕ → ℕ) → ℕ → Cutting → List ℕ → Result Fed FrameError → Type 0
TookPiece a limits first cutting piece (Ok fed) = TakesPiece a limits first cutting piece fed
TookPiece a limits first cutting piece (Err (error.Bad fault)) = RefusesPiece limits first cutting piece fault
TookPiece a limits first cutting piece (Err error.NoMemory) = Unit {0}

-- a fault came before, or within the piece
abbrev pub Refused : (ℕ → ℕ) → ℕ → Cutting → List ℕ → FrameFault → Type 0
Refused limits first (Cuts frames rest) piece fault = RefusesPiece limits first (Cuts frames rest) piece fault
Refused limits first (Faults frames at why) piece fault = fault ≡ record { at = at; why = why }

-- what a piece gives after these octets: the assemblies and the fault of the cut, once each comes. Without memory nothing was taken
abbrev pub Feeds : Assembler → (ℕ → ℕ) → ℕ → List ℕ → List ℕ → Result Fed FrameError → Type 0
Feeds a limits first octets piece (Ok fed) = Stands a limits first (octets ++ take fed.taken piece) × Comes limits first (cut limits first octets) piece fed.taken fed.done
Feeds a limits first octets piece (Err (error.Bad fault)) = Stands a limits first (octets ++ piece) × Refused limits first (cut limits first octets) piece fault
Feeds a limits first octets piece (Err error.NoMemory) = Stands a limits first octets

-- some octets of a piece that isn't empty are taken, and no more than there are
abbrev pub TakesSome : List ℕ → Result Fed FrameError → Type 0
TakesSome piece (Ok fed) = (fed.taken ≤ length piece) × (0 < length piece → 0 < fed.taken)
TakesSome piece (Err e) = Unit {0}

-- what is handed out is placed
abbrev pub StepPlaced : Result Step NoMemory → Type 0
StepPlaced (Ok step.Quiet) = Unit {0}
StepPlaced (Ok (step.Done done)) = IsPlaced done.assembly
StepPlaced (Ok (step.Bad fault)) = Unit {0}
StepPlaced (Err none) = Unit {0}

abbrev pub FedPlaced : Result Fed FrameError → Type 0
FedPlaced (Ok fed) = IfSome fed.done (λ done. IsPlaced done.assembly)
FedPlaced (Err e) = Unit {0}

-- ---- the largest frame

-- the place of the next frame that isn't checked yet
abbrev pub unchecked : ℕ → Cutting → ℕ
unchecked first (Cuts frames rest) = if nat_lt (length rest) 12 then place_after first frames else place_after first frames + 1
unchecked first (Faults frames at why) = 0
