-- Octets in either form.
use Rattle.std.specs.Prelude.{ℕ, List}
use Rattle.octet_reading.specs.declared.octets.Held.{Held}

-- those of a vector, or of shared memory
abbrev pub octets_held : Held → List ℕ
octets_held (Held.Own items) = items.items
octets_held (Held.Shared bytes) = bytes
