-- What a lane, the open assembly of a channel and track, keeps of its frames.
use Rattle.std.specs.Prelude.{ℕ, ◌+◌, ◌==◌, ◌||◌, ◌^◌, ◌-◌, min, is_none, Bool, false, if◌then◌else◌, List, [], ◌∷◌, ◌++◌, take, None, Some}
use Rattle.amqp_frames.specs.declared.assembly.Segment.{Segment}
use Rattle.amqp_frames.specs.declared.header.FrameHeader.{FrameHeader}
use Rattle.amqp_frames.specs.declared.lane.Lane.{Lane}
use Rattle.amqp_frames.specs.declared.lane.Mark.{Mark}
use Rattle.amqp_frames.specs.Cut.{Frame, payload_of_header, newest, oldest_from, payloads_size, payloads_of, has_kind}

abbrev pub empty_mark : Mark
empty_mark = record { last = None; at = 0; size = 0; header = false; body = false }

abbrev pub empty_lane : Lane
empty_lane = record { first = []; header = []; body = []; mark = empty_mark }

-- one frame more, at this place
abbrev pub marked : Mark → FrameHeader → ℕ → Mark
marked mark h at = record {
  last = Some h;
  at = if is_none mark.last then at else mark.at;
  size = min (mark.size + payload_of_header h) (2 ^ 32 - 1);
  header = mark.header || (h.kind == 2);
  body = mark.body || (h.kind == 3);
}

-- the octets of a segment of this type
abbrev pub octets_of : ℕ → Lane → List ℕ
octets_of kind lane = if kind == 2 then lane.header else if kind == 3 then lane.body else lane.first

-- octets come to a segment of this type
abbrev pub pushed : ℕ → List ℕ → Lane → Lane
pushed kind octets lane =
    if kind == 2 then record lane { header = lane.header ++ octets }
    else if kind == 3 then record lane { body = lane.body ++ octets }
    else record lane { first = lane.first ++ octets }

-- what came after a mark goes, with all octets but so many of a segment of this type
abbrev pub restored : ℕ → ℕ → Mark → Lane → Lane
restored kind len mark lane =
    if kind == 2 then record lane { header = take len lane.header; mark = mark }
    else if kind == 3 then record lane { body = take len lane.body; mark = mark }
    else record lane { first = take len lane.first; mark = mark }

-- a segment that began
abbrev pub segment_where : Bool → ℕ → List ℕ → List Segment
segment_where began kind octets = if began then record { kind = kind; octets = octets } ∷ [] else []

-- the segments that it holds
abbrev pub lane_segments : ℕ → Lane → List Segment
lane_segments on_track lane =
    if on_track == 0 then record { kind = 0; octets = lane.first } ∷ []
    else record { kind = 1; octets = lane.first } ∷ (segment_where lane.mark.header 2 lane.header ++ segment_where lane.mark.body 3 lane.body)

-- ---- what it stands for

-- the place of the first of these frames
abbrev pub first_place : List Frame → ℕ
first_place [] = 0
first_place (f ∷ fs) = oldest_from f.at fs

-- a mark of these frames
abbrev pub mark_of : List Frame → Mark
mark_of frames = record { last = newest frames; at = first_place frames; size = payloads_size frames; header = has_kind 2 frames; body = has_kind 3 frames }

-- a lane of these frames
abbrev pub lane_of : ℕ → List Frame → Lane
lane_of on_track frames = record { first = payloads_of on_track frames; header = payloads_of 2 frames; body = payloads_of 3 frames; mark = mark_of frames }
