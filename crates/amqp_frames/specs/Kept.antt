-- How many octets an assembler keeps.
use Rattle.std.specs.Prelude.{ℕ, ◌+◌, List, [], ◌∷◌, length}
use Rattle.amqp_frames.specs.declared.assembler.Assembler.{Assembler}
use Rattle.amqp_frames.specs.declared.lane.Lane.{Lane}

-- those of the segments of a lane
abbrev pub kept_in_lane : Lane → ℕ
kept_in_lane lane = length lane.first + length lane.header + length lane.body

abbrev pub kept_in_lanes : List Lane → ℕ
kept_in_lanes [] = 0
kept_in_lanes (lane ∷ lanes) = kept_in_lane lane + kept_in_lanes lanes

-- those of open assemblies, and of a part of a header
abbrev pub kept : Assembler → ℕ
kept a = kept_in_lanes a.lanes.items + length a.partial
