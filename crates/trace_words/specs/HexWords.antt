-- Octets in hex digits of either case.
use Rattle.std.specs.Prelude.{ℕ, ◌==◌, ◌||◌, nat_lt, if◌then◌else◌, List, length, Option, None, Some, Result, Ok, Err}
use Rattle.hex.specs.Hex.{decode_of}
use Rattle.hex.specs.declared.error.FromHexError.{FromHexError}

-- 1 to 65,536 octets
abbrev pub in_length : Result (List ℕ) FromHexError → Option (List ℕ)
in_length (Ok octets) = if length octets == 0 || nat_lt 65536 (length octets) then None else Some octets
in_length (Err fault) = None

abbrev pub octets_in : List ℕ → Option (List ℕ)
octets_in word = in_length (decode_of word)
