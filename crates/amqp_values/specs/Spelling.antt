-- The octets that spell a value (AMQP 0-10, "types").
use Rattle.std.specs.Prelude.{◌≡◌, ℕ, suc, ◌-◌, ◌^◌, ◌==◌, ◌&&◌, ◌||◌, not, max, min, nat_le, Bool, true, false, bytes_eq, List, [], ◌∷◌, ◌++◌, length, map, flat_map, slice_index, Option, Some}
use Rattle.std.specs.Int.{w32, to_be_bytes}
use Rattle.std.specs.List.{list_any, list_all}
use Rattle.std.specs.Str.{is_utf8}
use Rattle.octet_reading.specs.declared.part.SizeWidth.TheVariants.{One, Two, Four}
use Rattle.octet_reading.specs.Spelling.{sized, fits}
use Rattle.amqp_values.specs.declared.kind.Kind.{Kind}
use Rattle.amqp_values.specs.declared.kind.Kind.TheVariants as kinds
use Rattle.amqp_values.specs.declared.value.Pair.{Pair}
use Rattle.amqp_values.specs.declared.value.Value.{Value}
use Rattle.amqp_values.specs.declared.value.Value.TheOpen.{Value-F}
use Rattle.amqp_values.specs.declared.value.Value.TheFolds.{fold-Value}
use Rattle.amqp_values.specs.Codes.{kind, is_array_code}

-- what a value is by its spelling: its code, its octets, how many containers stand in it on one path, and whether it has a spelling
pub record Told : Type 0 where
  pub code : ℕ
  pub octets : List ℕ
  pub levels : ℕ
  pub fine : Bool

-- a value without values in it
abbrev pub plain : ℕ → List ℕ → Bool → Told
plain code octets fine = record { code = code; octets = octets; levels = 0; fine = fine }

-- as many octets as the code's values have, a boolean 0 or 1
abbrev pub fixed_fine : Option Kind → List ℕ → Bool
fixed_fine (Some (kinds.Fixed size)) octets = length octets == size
fixed_fine (Some kinds.Boolean) octets = (length octets == 1) && nat_le (slice_index octets 0) 1
fixed_fine kind octets = false

-- octets behind the size that the code's values have
abbrev pub bin_octets : Option Kind → List ℕ → List ℕ
bin_octets (Some (kinds.Bin width)) octets = sized width octets
bin_octets kind octets = []

abbrev pub bin_fine : Option Kind → List ℕ → Bool
bin_fine (Some (kinds.Bin width)) octets = fits width (length octets)
bin_fine kind octets = false

-- the most levels
abbrev pub deepest : List Told → ℕ
deepest [] = 0
deepest (t ∷ ts) = max t.levels (deepest ts)

abbrev pub deepest_pair : List (Pair Told) → ℕ
deepest_pair [] = 0
deepest_pair (p ∷ pairs) = max p.value.levels (deepest_pair pairs)

-- a container with its content
abbrev pub around : ℕ → List ℕ → ℕ → Bool → Told
around code content levels fine = record { code = code; octets = sized Four content; levels = suc levels; fine = fits Four (length content) && fine }

-- a code, and a value of it
abbrev pub item_octets : Told → List ℕ
item_octets t = t.code ∷ t.octets

-- a key, and an item
abbrev pub pair_octets : Pair Told → List ℕ
pair_octets p = sized One p.key ++ item_octets p.value

-- keys are short texts that differ
abbrev pub keys_fine : List (Pair Told) → Bool
keys_fine [] = true
keys_fine (p ∷ pairs) = (fits One (length p.key) && is_utf8 p.key) && (not (list_any (λ (q : Pair Told). bytes_eq q.key p.key) pairs) && keys_fine pairs)

-- a count, and what follows it
abbrev pub counted : ℕ → List ℕ → List ℕ
counted count octets = to_be_bytes w32 count ++ octets

-- one layer of a value
abbrev pub told_by : Value-F Told → Told
told_by (Value-F.Fixed code octets) = plain code octets (fixed_fine (kind code) octets)
told_by (Value-F.Text8 text) = plain 133 (sized One text) (fits One (length text) && is_utf8 text)
told_by (Value-F.Text16 text) = plain 149 (sized Two text) (fits Two (length text) && is_utf8 text)
told_by (Value-F.Bin code octets) = plain code (bin_octets (kind code) octets) (bin_fine (kind code) octets)
told_by (Value-F.Map pairs) =
    around 168 (counted (length pairs) (flat_map pair_octets pairs)) (deepest_pair pairs) (fits Four (length pairs) && (keys_fine pairs && list_all (λ p. p.value.fine) pairs))
told_by (Value-F.List items) = around 169 (counted (length items) (flat_map item_octets items)) (deepest items) (fits Four (length items) && list_all (λ t. t.fine) items)
told_by (Value-F.Array code items) =
    around 170 (code ∷ counted (length items) (flat_map (λ t. t.octets) items)) (deepest items) (fits Four (length items) && (is_array_code code && list_all (λ t. (t.code == code) && t.fine) items))
told_by (Value-F.Struct32 octets) = plain 171 (sized Four octets) (fits Four (length octets))
told_by (Value-F.Bare code) = record { code = code; octets = to_be_bytes w32 0; levels = 1; fine = (code == 168) || ((code == 169) || (code == 170)) }
told_by Value-F.Void = plain 240 [] true
told_by Value-F.Bit = plain 241 [] true

unfoldable pub told : Value → Told
told = fold-Value Told told_by

abbrev pub told_pair : Pair Value → Pair Told
told_pair p = record { key = p.key; value = told p.value }

-- what pairs, items, and values of one code spell in their container
abbrev pub pairs_octets : List (Pair Value) → List ℕ
pairs_octets pairs = flat_map pair_octets (map told_pair pairs)

abbrev pub items_octets : List Value → List ℕ
items_octets items = flat_map item_octets (map told items)

abbrev pub values_octets : List Value → List ℕ
values_octets items = flat_map (λ t. t.octets) (map told items)

-- the octets of a value, without its code
abbrev pub spelling : Value → List ℕ
spelling value = (told value).octets

-- containers that have a spelling
abbrev pub map_told : List (Pair Value) → Told
map_told pairs = told_by (Value-F.Map (map told_pair pairs))

abbrev pub list_told : List Value → Told
list_told items = told_by (Value-F.List (map told items))

abbrev pub array_told : ℕ → List Value → Told
array_told code items = told_by (Value-F.Array code (map told items))

-- a value has a spelling
abbrev pub is_valid : Value → Bool
is_valid value = (told value).fine && nat_le (told value).levels 16

-- a value, or a pair, that has a spelling, its depth aside
abbrev pub IsFine : Value → Type 0
IsFine value = (told value).fine ≡ true

abbrev pub IsPairFine : Pair Value → Type 0
IsPairFine pair = (fits One (length pair.key) ≡ true) × IsFine pair.value

-- a length, as far as it can be counted
abbrev pub counted_upto : ℕ → ℕ
counted_upto n = min n (2 ^ 64 - 1)
