-- Serials modulo 2^32 and the numbers that they stand for.
use Rattle.std.specs.Prelude.{ℕ, ◌+◌, ◌-◌, ◌%◌, ◌^◌, max, nat_lt, nat_le, if◌then◌else◌, Option, None, Some}

-- a number on the wire
abbrev pub serial_of : ℕ → ℕ
serial_of n = n % 2 ^ 32

-- how far the serial lies ahead of the reference, modulo 2^32
abbrev pub ahead_of : ℕ → ℕ → ℕ
ahead_of reference serial = (serial + 2 ^ 32 - reference % 2 ^ 32) % 2 ^ 32

-- the number within 2^31 of the reference that the serial stands for, if it isn't negative; half of the circle counts as before
abbrev pub unwrapped : ℕ → ℕ → Option ℕ
unwrapped reference serial =
    if nat_lt (ahead_of reference serial) (2 ^ 31) then Some (reference + ahead_of reference serial)
    else if nat_le (2 ^ 32 - ahead_of reference serial) reference then Some (reference - (2 ^ 32 - ahead_of reference serial))
    else None

-- where a serial's number lies, 2^32 further on, so that it is never negative
abbrev pub shifted : ℕ → ℕ → ℕ
shifted reference serial = reference + ahead_of reference serial + (if nat_lt (ahead_of reference serial) (2 ^ 31) then 2 ^ 32 else 0)

-- how many serials lie between two
abbrev pub width : ℕ → ℕ → ℕ
width lower upper = (upper + 2 ^ 32 - lower) % 2 ^ 32

-- the numbers from that of the lower serial on, as many as there are serials; negative ones fall away
abbrev pub unwrapped_range : ℕ → ℕ → ℕ → Option (ℕ × ℕ)
unwrapped_range reference lower upper =
    if nat_lt (shifted reference lower + width lower upper) (2 ^ 32) then None
    else Some (max (shifted reference lower) (2 ^ 32) - 2 ^ 32, shifted reference lower + width lower upper - 2 ^ 32)
