-- The type codes (AMQP 0-10, "types").
use Rattle.std.specs.Prelude.{ℕ, ◌==◌, ◌&&◌, nat_lt, is_some, Bool, List, [], ◌∷◌, Option}
use Rattle.std.specs.Map.{lookup}
use Rattle.octet_reading.specs.declared.part.SizeWidth.TheVariants.{One, Two, Four}
use Rattle.amqp_values.specs.declared.kind.Kind.{Kind}
use Rattle.amqp_values.specs.declared.kind.Kind.TheVariants.{Fixed, Boolean, Text8, Text16, Bin, Container, Struct32, Void, Bit}
use Rattle.amqp_values.specs.declared.kind.Container.TheVariants as of

-- how the value of each code is spelled
abbrev pub code_table : List (ℕ × Kind)
code_table =
    (0, Fixed 1) ∷
    (1, Fixed 1) ∷
    (2, Fixed 1) ∷
    (4, Fixed 1) ∷
    (8, Boolean) ∷
    (16, Fixed 2) ∷
    (17, Fixed 2) ∷
    (18, Fixed 2) ∷
    (32, Fixed 4) ∷
    (33, Fixed 4) ∷
    (34, Fixed 4) ∷
    (35, Fixed 4) ∷
    (39, Fixed 4) ∷
    (48, Fixed 8) ∷
    (49, Fixed 8) ∷
    (50, Fixed 8) ∷
    (51, Fixed 8) ∷
    (56, Fixed 8) ∷
    (64, Fixed 16) ∷
    (72, Fixed 16) ∷
    (80, Fixed 32) ∷
    (96, Fixed 64) ∷
    (112, Fixed 128) ∷
    (128, Bin One) ∷
    (132, Bin One) ∷
    (133, Text8) ∷
    (134, Bin One) ∷
    (144, Bin Two) ∷
    (148, Bin Two) ∷
    (149, Text16) ∷
    (150, Bin Two) ∷
    (160, Bin Four) ∷
    (168, Container of.Map) ∷
    (169, Container of.List) ∷
    (170, Container of.Array) ∷
    (171, Struct32) ∷
    (192, Fixed 5) ∷
    (200, Fixed 5) ∷
    (208, Fixed 9) ∷
    (216, Fixed 9) ∷
    (240, Void) ∷
    (241, Bit) ∷
    []

-- the kind of a code, where it is listed
unfoldable pub kind : ℕ → Option Kind
kind code = lookup (λ c. c == code) code_table

abbrev pub is_known : ℕ → Bool
is_known code = is_some (kind code)

-- a code whose values have octets
abbrev pub is_array_code : ℕ → Bool
is_array_code code = is_known code && nat_lt code 240
