-- A line's first word, and what follows its space.
use Rattle.std.specs.Prelude.{ℕ, ◌+◌, ◌==◌, nat_lt, if◌then◌else◌, List, length, take, drop, Option, None, Some}
use Rattle.std.specs.List.{position_or_len}

-- where the first space stands, or the length
abbrev pub space_at : List ℕ → ℕ
space_at line = position_or_len (λ octet. octet == 32) line

abbrev pub word_of : List ℕ → List ℕ
word_of line = take (space_at line) line

abbrev pub rest_of : List ℕ → Option (List ℕ)
rest_of line = if nat_lt (space_at line) (length line) then Some (drop (space_at line + 1) line) else None
