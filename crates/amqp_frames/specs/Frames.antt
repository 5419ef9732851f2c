-- Assemblies laid in frames (AMQP 0-10, "transport", "assemblies, segments and frames").
use Rattle.std.specs.Prelude.{ℕ, zero, suc, ◌+◌, ◌-◌, ◌==◌, nat_le, if◌then◌else◌, List, [], ◌∷◌, ◌++◌, length, take, drop}
use Rattle.std.specs.Int.{w16, to_be_bytes}
use Rattle.amqp_frames.specs.declared.assembly.Segment.{Segment}

-- controls go on track 0, the rest on track 1
abbrev pub track : ℕ → ℕ
track kind = if kind == 0 then 0 else 1

-- flags, type, size, track and channel, then the payload
abbrev pub frame : ℕ → ℕ → ℕ → List ℕ → List ℕ
frame flags kind channel payload =
    flags ∷ kind ∷ (to_be_bytes w16 (length payload + 12) ++ 0 ∷ track kind ∷ (to_be_bytes w16 channel ++ 0 ∷ 0 ∷ 0 ∷ 0 ∷ payload))

-- the frames of the rest of a segment, each as full as it may be; `first` is 2 for the first of them, and the last one has 1 more
unfoldable pub frames_from : ℕ → ℕ → ℕ → ℕ → ℕ → ℕ → List ℕ → List ℕ
frames_from zero most ends kind channel first rest = []
frames_from (suc fuel) most ends kind channel first rest =
    if nat_le (length rest) most then frame (ends + first + 1) kind channel rest
    else frame (ends + first) kind channel (take most rest) ++ frames_from fuel most ends kind channel 0 (drop most rest)

-- a segment in as few frames as fit, an empty one in one
abbrev pub laid_segment : ℕ → ℕ → ℕ → ℕ → List ℕ → List ℕ
laid_segment most ends kind channel octets = frames_from (suc (length octets)) most ends kind channel 2 octets

-- the last segment is marked by 4
abbrev pub last_mark : List Segment → ℕ
last_mark [] = 4
last_mark (segment ∷ segments) = 0

abbrev pub laid_segments : ℕ → ℕ → ℕ → List Segment → List ℕ
laid_segments most first channel [] = []
laid_segments most first channel (segment ∷ segments) = laid_segment most (first + last_mark segments) segment.kind channel segment.octets ++ laid_segments most 0 channel segments

-- an assembly in frames of so many octets at most, the first segment marked by 8
abbrev pub laid : ℕ → List Segment → ℕ → List ℕ
laid channel segments max_frame = laid_segments (max_frame - 12) 8 channel segments
