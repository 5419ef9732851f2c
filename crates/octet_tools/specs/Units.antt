-- The units that octets bring, each with its channel.
use Rattle.std.specs.Prelude.{◌≡◌, ℕ, ◌<◌, ◌≤◌, ◌^◌, List, [], ◌∷◌, ◌++◌, length}
use Rattle.amqp_terms.specs.declared.unit.Unit.{Unit as AnyUnit}
use Rattle.amqp_frames.specs.Cut.{cut}
use Rattle.octet_tools.specs.declared.tool.OctetTool.{OctetTool}
use Rattle.octet_tools.specs.declared.tool.OctetTool.TheVariants as tool
use Rattle.octet_tools.specs.Course.{Brings, Nothing, Gives, Breaks, brings, limits, Course, Opens, Runs, Ends, next, output}

abbrev pub brings_units : Brings → List (ℕ × AnyUnit)
brings_units Nothing = []
brings_units (Gives done unit) = (done.channel, unit) ∷ []
brings_units (Breaks at why) = []

-- that of one octet
abbrev pub unit_at : Course → ℕ → List (ℕ × AnyUnit)
unit_at (Opens octets) octet = []
unit_at (Runs first octets) octet = brings_units (brings (cut limits first (octets ++ octet ∷ [])))
unit_at (Ends at why) octet = []

-- those of further octets
abbrev pub units_from : Course → List ℕ → List (ℕ × AnyUnit)
units_from c [] = []
units_from c (octet ∷ octets) = unit_at c octet ++ units_from (next c octet) octets

-- those of all octets up to the first fault
abbrev pub units : List ℕ → List (ℕ × AnyUnit)
units octets = units_from (Opens []) octets

-- `reframe` keeps the units of an input within the limit; `max_frame` has 16 bits
abbrev pub KeepsUnits : OctetTool → Type 0
KeepsUnits tool.Show = Unit {0}
KeepsUnits (tool.Reframe max_frame) = (octets : List ℕ) → max_frame < 2 ^ 16 → length octets ≤ 2 ^ 30 → units (output (tool.Reframe max_frame) octets) ≡ units octets
