-- Octets behind their size, as they are written.
use Rattle.std.specs.Prelude.{ℕ, nat_lt, Bool, List, ◌++◌, length}
use Rattle.std.specs.Int.{to_be_bytes}
use Rattle.octet_reading.specs.declared.part.SizeWidth.{SizeWidth}
use Rattle.octet_reading.specs.declared.part.SizeWidth.TheVariants.{One, Two, Four}
use Rattle.octet_reading.specs.Reading.{width_of}

-- a size, and the octets
abbrev pub sized : SizeWidth → List ℕ → List ℕ
sized width octets = to_be_bytes (width_of width) (length octets) ++ octets

-- so many octets can be counted
abbrev pub fits : SizeWidth → ℕ → Bool
fits One size = nat_lt size 256
fits Two size = nat_lt size 65536
fits Four size = nat_lt size 4294967296
