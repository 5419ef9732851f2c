-- What was laid in frames is cut out of them again.
use Rattle.std.specs.Prelude.{◌≡◌, ℕ, ◌+◌, ◌*◌, ◌^◌, ◌<◌, ◌≤◌, ◌==◌, ◌&&◌, false, List, [], ◌∷◌, ◌++◌, length}
use Rattle.amqp_frames.specs.declared.assembly.Segment.{Segment}
use Rattle.amqp_frames.specs.Assembly.{IsPlaced}
use Rattle.amqp_frames.specs.Cut.{Frame, Cuts, cut_on, open_on, open_size, place_after}
use Rattle.amqp_frames.specs.Frames.{track}
use Rattle.amqp_frames.specs.Stands.{Gives}

-- how many octets segments have
abbrev pub octets_in : List Segment → ℕ
octets_in [] = 0
octets_in (segment ∷ segments) = length segment.octets + octets_in segments

-- the track of an assembly
abbrev pub track_of : List Segment → ℕ
track_of [] = 1
track_of (segment ∷ segments) = track segment.kind

-- an assembly may come on a channel after these whole frames, in frames of so many octets at most: its lane is free, and no limit stands against it
pub record MayCome (limits : ℕ → ℕ) (first : ℕ) (frames : List Frame) (channel : ℕ) (segments : List Segment) (max_frame : ℕ) : Type 0 where
  pub placed : IsPlaced segments
  pub channel_low : channel ≤ 63
  pub allowed : (place : ℕ) → max_frame ≤ limits place
  pub free : open_on channel (track_of segments) frames ≡ []
  pub near : place_after first frames < 2 ^ 61
  pub assembly_fits : octets_in segments ≤ 16777216
  pub open_fits : open_size frames + octets_in segments ≤ 33554432

-- the octets give this assembly with the last of them, and nothing before; what was open before is open still
pub record ComesBack (limits : ℕ → ℕ) (first : ℕ) (frames : List Frame) (channel : ℕ) (segments : List Segment) (octets : List ℕ) : Type 0 where
  pub gives : Gives limits first (Cuts frames []) octets
      (record { channel = channel; assembly = segments; at = place_after first frames; end = place_after first frames + length octets })
  pub later : List Frame
  pub cuts : cut_on limits first (Cuts frames []) octets ≡ Cuts (later ++ frames) []
  pub free : open_on channel (track_of segments) (later ++ frames) ≡ []
  pub others : (c t : ℕ) → ((channel == c) && (track_of segments == t)) ≡ false → open_on c t (later ++ frames) ≡ open_on c t frames
  pub open_same : open_size (later ++ frames) ≡ open_size frames
  pub few : length octets ≤ 13 * octets_in segments + 48
