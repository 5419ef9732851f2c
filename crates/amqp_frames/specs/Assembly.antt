-- Which segments stand for a unit (AMQP 0-10, "transport", "assemblies, segments and frames").
use Rattle.std.specs.Prelude.{◌≡◌, ℕ, ◌==◌, ◌&&◌, nat_le, nat_lt, Bool, true, false, if◌then◌else◌, List, [], ◌∷◌}
use Rattle.amqp_frames.specs.declared.assembly.Segment.{Segment}

abbrev pub is_alone : List Segment → Bool
is_alone [] = true
is_alone (segment ∷ segments) = false

-- each has kind 2 or 3, and a greater kind than the one before
abbrev pub follow : ℕ → List Segment → Bool
follow before [] = true
follow before (segment ∷ segments) = (nat_le 2 segment.kind && nat_le segment.kind 3) && (nat_lt before segment.kind && follow segment.kind segments)

-- a control is alone; a command may be followed by a header and a body
abbrev pub is_placed : List Segment → Bool
is_placed [] = false
is_placed (segment ∷ segments) = if segment.kind == 0 then is_alone segments else (segment.kind == 1) && follow 1 segments

abbrev pub IsPlaced : List Segment → Type 0
IsPlaced segments = is_placed segments ≡ true
