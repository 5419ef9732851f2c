-- Octets of a connection as frames, and frames as assemblies (AMQP 0-10, "transport", "assemblies, segments and frames").
-- Frames are listed with the newest first. Places count octets of the connection.
use Rattle.std.specs.Prelude.{ℕ, ◌+◌, ◌-◌, ◌^◌, ◌==◌, ◌&&◌, ◌||◌, nat_lt, nat_le, not, bit_and, Bool, true, false, is_none, if◌then◌else◌, List, [], ◌∷◌, ◌++◌, length, take, drop, slice_index, fold, Option, None, Some}
use Rattle.std.specs.Int.{w16, from_be_bytes}
use Rattle.octet_reading.specs.declared.why.Why.{Why}
use Rattle.octet_reading.specs.declared.why.Why.TheVariants.{TooFar, BadSize, BadFlags, BadType, BadTrack, TooManyChannels, TooLarge, TooMuchOpen}
use Rattle.amqp_frames.specs.declared.assembly.Segment.{Segment}
use Rattle.amqp_frames.specs.declared.header.FrameHeader.{FrameHeader}
use Rattle.amqp_frames.specs.declared.done.Done.{Done}
use Rattle.amqp_frames.specs.Frames.{track}

-- ---- a frame

-- what the first twelve octets of a frame say; reserved octets and bits are passed over
unfoldable pub header_in : List ℕ → FrameHeader
header_in octets = record {
  flags = slice_index octets 0;
  kind = slice_index octets 1;
  size = from_be_bytes w16 (take 2 (drop 2 octets));
  track = bit_and (slice_index octets 5) 15;
  channel = from_be_bytes w16 (take 2 (drop 6 octets));
}

-- a frame with its payload, and the place of its first octet
pub record Frame : Type 0 where
  pub header : FrameHeader
  pub payload : List ℕ
  pub at : ℕ

abbrev pub is_set : ℕ → ℕ → Bool
is_set flags mask = not (bit_and flags mask == 0)

abbrev pub is_first_segment : FrameHeader → Bool
is_first_segment h = is_set h.flags 8

abbrev pub is_last_segment : FrameHeader → Bool
is_last_segment h = is_set h.flags 4

abbrev pub is_first_frame : FrameHeader → Bool
is_first_frame h = is_set h.flags 2

abbrev pub is_last_frame : FrameHeader → Bool
is_last_frame h = is_set h.flags 1

-- the last frame of its assembly
abbrev pub ends_assembly : FrameHeader → Bool
ends_assembly h = is_last_segment h && is_last_frame h

-- how many octets its payload has
abbrev pub payload_of_header : FrameHeader → ℕ
payload_of_header h = h.size - 12

-- ---- the open assembly of a channel and track

abbrev pub is_on : ℕ → ℕ → FrameHeader → Bool
is_on channel on_track h = (h.channel == channel) && (h.track == on_track)

-- its frames so far: those after the last one that ended an assembly
abbrev pub open_on : ℕ → ℕ → List Frame → List Frame
open_on channel on_track [] = []
open_on channel on_track (f ∷ fs) =
    if is_on channel on_track f.header then (if ends_assembly f.header then [] else f ∷ open_on channel on_track fs) else open_on channel on_track fs

abbrev pub newest : List Frame → Option FrameHeader
newest [] = None
newest (f ∷ fs) = Some f.header

-- the place of the first of them
abbrev pub oldest_from : ℕ → List Frame → ℕ
oldest_from at [] = at
oldest_from at (f ∷ fs) = oldest_from f.at fs

-- how many octets their payloads have
abbrev pub payloads_size : List Frame → ℕ
payloads_size [] = 0
payloads_size (f ∷ fs) = payloads_size fs + payload_of_header f.header

-- the payloads of one type, joined
abbrev pub payloads_of : ℕ → List Frame → List ℕ
payloads_of kind [] = []
payloads_of kind (f ∷ fs) = payloads_of kind fs ++ (if f.header.kind == kind then f.payload else [])

abbrev pub has_kind : ℕ → List Frame → Bool
has_kind kind [] = false
has_kind kind (f ∷ fs) = has_kind kind fs || (f.header.kind == kind)

-- a segment of this type, where a frame of it is there
abbrev pub segment_of : ℕ → List Frame → List Segment
segment_of kind frames = if has_kind kind frames then record { kind = kind; octets = payloads_of kind frames } ∷ [] else []

-- the segments that frames of one track make: on track 0 a control alone; else a command, then a header and a body where they are there
abbrev pub segments_of : ℕ → List Frame → List Segment
segments_of on_track frames =
    if on_track == 0 then record { kind = 0; octets = payloads_of 0 frames } ∷ []
    else record { kind = 1; octets = payloads_of 1 frames } ∷ (segment_of 2 frames ++ segment_of 3 frames)

-- how many octets the payloads of all open assemblies have: each frame adds its own, and the last of an assembly takes them all away
abbrev pub open_size : List Frame → ℕ
open_size [] = 0
open_size (f ∷ fs) =
    if ends_assembly f.header then open_size fs - payloads_size (open_on f.header.channel f.header.track fs) else open_size fs + payload_of_header f.header

-- ---- what may come

-- what is wrong with a header by itself, for this largest frame and at this place
abbrev pub form_fault : ℕ → ℕ → FrameHeader → Option Why
form_fault max_frame at h =
    if nat_le (2 ^ 62) at then Some TooFar
    else if nat_lt h.size 12 || nat_lt max_frame h.size then Some BadSize
    else if is_set h.flags 192 then Some BadFlags
    else if nat_lt 3 h.kind then Some BadType
    else if not (h.track == track h.kind) then Some BadTrack
    else if nat_lt 63 h.channel then Some TooManyChannels
    else None

-- a frame begins an assembly, a control being one segment; or begins a later segment; or goes on with the one at hand
abbrev pub in_place : Option FrameHeader → FrameHeader → Bool
in_place None h = (is_first_segment h && is_first_frame h) && ((h.kind == 0 && is_last_segment h) || h.kind == 1)
in_place (Some last) h =
    if is_last_frame last then (is_first_frame h && not (is_first_segment h)) && nat_lt last.kind h.kind
    else not (is_first_frame h) && (h.kind == last.kind && bit_and h.flags 12 == bit_and last.flags 12)

-- a payload beside those of its assembly and those of all open ones
abbrev pub size_fault : ℕ → ℕ → ℕ → Option Why
size_fault payload assembled open_octets =
    if nat_lt 16777216 (assembled + payload) then Some TooLarge else if nat_lt 33554432 (open_octets + payload) then Some TooMuchOpen else None

-- the first of these that is there
abbrev pub or_else : Option Why → Option Why → Option Why
or_else None other = other
or_else (Some why) other = Some why

-- what is wrong with a frame after the newest one of its assembly, beside the payloads of the assembly and of all open ones
abbrev pub fault_beside : ℕ → ℕ → FrameHeader → Option FrameHeader → ℕ → ℕ → Option Why
fault_beside max_frame at h last assembled open_octets =
    or_else (form_fault max_frame at h) (if in_place last h then size_fault (payload_of_header h) assembled open_octets else Some BadFlags)

-- what is wrong with a frame after these
abbrev pub frame_fault : ℕ → ℕ → FrameHeader → List Frame → Option Why
frame_fault max_frame at h frames =
    fault_beside max_frame at h (newest (open_on h.channel h.track frames)) (payloads_size (open_on h.channel h.track frames)) (open_size frames)

-- ---- the cut

-- whole frames and the octets of the one at hand; or the first fault, with the frames before it
pub data Cutting : Type 0 where
  Cuts : (frames : List Frame) → (rest : List ℕ) → Cutting
  Faults : (frames : List Frame) → (at : ℕ) → (why : Why) → Cutting

-- the place after these frames; the first octet of all has a place that is handed in
abbrev pub place_after : ℕ → List Frame → ℕ
place_after first [] = first
place_after first (f ∷ fs) = f.at + f.header.size

-- the header of the octets at hand
abbrev pub header_at : List ℕ → FrameHeader
header_at rest = header_in (take 12 rest)

-- the octets of a frame, which is whole or not
abbrev pub frame_of : ℕ → List ℕ → Frame
frame_of at rest = record { header = header_at rest; payload = drop 12 rest; at = at }

abbrev pub grown : ℕ → List Frame → List ℕ → Cutting
grown at frames rest = if length rest == (header_at rest).size then Cuts (frame_of at rest ∷ frames) [] else Cuts frames rest

abbrev pub checked : Option Why → ℕ → List Frame → List ℕ → Cutting
checked None at frames rest = grown at frames rest
checked (Some why) at frames rest = Faults frames at why

-- a frame is checked at its twelfth octet, for the largest frame at its place
abbrev pub at_hand : (ℕ → ℕ) → ℕ → List Frame → List ℕ → Cutting
at_hand limits at frames rest =
    if nat_lt (length rest) 12 then Cuts frames rest
    else if length rest == 12 then checked (frame_fault (limits at) at (header_at rest) frames) at frames rest
    else grown at frames rest

-- one octet more; nothing is taken after a fault
unfoldable pub cut_octet : (ℕ → ℕ) → ℕ → Cutting → ℕ → Cutting
cut_octet limits first (Cuts frames rest) octet = at_hand limits (place_after first frames) frames (rest ++ octet ∷ [])
cut_octet limits first (Faults frames at why) octet = Faults frames at why

-- further octets
abbrev pub cut_on : (ℕ → ℕ) → ℕ → Cutting → List ℕ → Cutting
cut_on limits first cutting octets = fold (cut_octet limits first) cutting octets

-- the octets of a connection, for the largest frame at each place; the first of them has this place
abbrev pub cut : (ℕ → ℕ) → ℕ → List ℕ → Cutting
cut limits first octets = cut_on limits first (Cuts [] []) octets

-- ---- what comes out

-- the assembly that the newest of these frames ends
abbrev pub ended_by : List Frame → Option Done
ended_by [] = None
ended_by (f ∷ fs) =
    if ends_assembly f.header then Some (record {
      channel = f.header.channel;
      assembly = segments_of f.header.track (f ∷ open_on f.header.channel f.header.track fs);
      at = oldest_from f.at (open_on f.header.channel f.header.track fs);
      end = f.at + f.header.size;
    }) else None

-- the assembly that ends with the last octet, if one does
abbrev pub whole : Cutting → Option Done
whole (Cuts frames []) = ended_by frames
whole (Cuts frames (octet ∷ rest)) = None
whole (Faults frames at why) = None

-- neither an assembly nor a fault came with the last octet
abbrev pub is_quiet : Cutting → Bool
is_quiet (Cuts frames []) = is_none (ended_by frames)
is_quiet (Cuts frames (octet ∷ rest)) = true
is_quiet (Faults frames at why) = false

-- nor with any of these
abbrev pub all_quiet : (ℕ → ℕ) → ℕ → Cutting → List ℕ → Bool
all_quiet limits first cutting [] = true
all_quiet limits first cutting (octet ∷ octets) =
    is_quiet (cut_octet limits first cutting octet) && all_quiet limits first (cut_octet limits first cutting octet) octets
