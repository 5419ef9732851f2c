-- How changes of lanes are taken back.
use Rattle.std.specs.Prelude.{ℕ, ◌+◌, ◌*◌, ◌==◌, ◌<◌, if◌then◌else◌, List, [], ◌∷◌, length, slice_index_or}
use Rattle.std.specs.List.{All}
use Rattle.amqp_frames.specs.declared.header.FrameHeader.{FrameHeader}
use Rattle.amqp_frames.specs.declared.lane.Lane.{Lane}
use Rattle.amqp_frames.specs.declared.touched.Touch.{Touch}
use Rattle.amqp_frames.specs.Lane.{empty_lane, restored}

-- a lane that isn't there is empty
abbrev pub lane_in : List Lane → ℕ → Lane
lane_in lanes number = slice_index_or lanes number empty_lane

-- two lanes for each channel, by the track
abbrev pub lane_number : FrameHeader → ℕ
lane_number h = 2 * h.channel + h.track

-- the lanes with one change taken back
abbrev pub put_back : Touch → (ℕ → Lane) → ℕ → Lane
put_back touch lanes = λ i. if i == touch.lane then restored touch.kind touch.len touch.mark (lanes i) else lanes i

-- and with all of these, the last of them first
abbrev pub undone : List Touch → (ℕ → Lane) → ℕ → Lane
undone [] lanes = lanes
undone (touch ∷ log) lanes = put_back touch (undone log lanes)

-- the lanes that were changed are there
abbrev pub InReach : List Touch → List Lane → Type 0
InReach log lanes = All (λ touch. touch.lane < length lanes) log
