-- The octets of a segment, in either form.
use Rattle.std.specs.Prelude.{ℕ, List}
use Rattle.amqp_frames.specs.declared.gathered.Held.{Held}

-- those of a vector, or of shared memory
abbrev pub octets_held : Held → List ℕ
octets_held (Held.Growing octets) = octets.items
octets_held (Held.Shared octets) = octets
