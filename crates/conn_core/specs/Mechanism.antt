-- Which start-ok is taken.
use Rattle.std.specs.Prelude.{ℕ, ◌==◌, ◌&&◌, ◌||◌, not, Bool, false, if◌then◌else◌, is_some, bytes_eq, codes, List, [], ◌∷◌, Option, None, Some}

-- what stands behind the first octet 00
abbrev pub after_zero : List ℕ → Option (List ℕ)
after_zero [] = None
after_zero (octet ∷ octets) = if octet == 0 then Some octets else after_zero octets

abbrev pub begins_with_zero : List ℕ → Bool
begins_with_zero [] = false
begins_with_zero (octet ∷ octets) = octet == 0

-- a last part, without an octet 00
abbrev pub is_last : Option (List ℕ) → Bool
is_last None = false
is_last (Some octets) = not (is_some (after_zero octets))

-- a second part that isn't empty, and a last one
abbrev pub names : Option (List ℕ) → Bool
names None = false
names (Some octets) = not (begins_with_zero octets) && is_last (after_zero octets)

-- three parts, parted by two octets 00, of which the second isn't empty (RFC 4616)
abbrev pub is_plain : List ℕ → Bool
is_plain octets = names (after_zero octets)

abbrev pub is_answer : Option (List ℕ) → Bool
is_answer None = false
is_answer (Some octets) = is_plain octets

-- ANONYMOUS, or PLAIN with a name
abbrev pub takes_start : Option (List ℕ) → Option (List ℕ) → Bool
takes_start None response = false
takes_start (Some mechanism) response = bytes_eq mechanism (codes "ANONYMOUS") || (bytes_eq mechanism (codes "PLAIN") && is_answer response)
