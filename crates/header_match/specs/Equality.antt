-- Equality of values, by code and octets, layer by layer (AMQP 0-10, "types").
use Rattle.std.specs.Prelude.{ℕ, ◌==◌, ◌&&◌, Bool, true, false, List, [], ◌∷◌, bytes_eq, Option, None, Some}
use Rattle.amqp_values.specs.declared.value.Pair.{Pair}
use Rattle.amqp_values.specs.declared.value.Value.{Value}
use Rattle.amqp_values.specs.declared.value.Value.TheOpen.{Value-F}
use Rattle.amqp_values.specs.declared.value.Value.TheViews.{out-Value}
use Rattle.amqp_values.specs.declared.value.Value.TheFolds.{fold-Value}

-- a value's test for being equal to it
abbrev pub Test : Type 0
Test = Value → Bool

-- two lists are as long, and so are their parts related in order
abbrev pub pairwise : {A B : Type 0} → (A → B → Bool) → List A → List B → Bool
pairwise related [] [] = true
pairwise related [] (y ∷ ys) = false
pairwise related (x ∷ xs) [] = false
pairwise related (x ∷ xs) (y ∷ ys) = related x y && pairwise related xs ys

-- a value passes a test
abbrev pub passes : Test → Value → Bool
passes test b = test b

-- a pair has the key, and its value passes the test
abbrev pub pair_passes : Pair Test → Pair Value → Bool
pair_passes t b = bytes_eq t.key b.key && t.value b.value

abbrev fixed_equal : ℕ → List ℕ → Value-F Value → Bool
fixed_equal code octets (Value-F.Fixed c o) = (code == c) && bytes_eq octets o
fixed_equal code octets _ = false

abbrev text8_equal : List ℕ → Value-F Value → Bool
text8_equal text (Value-F.Text8 t) = bytes_eq text t
text8_equal text _ = false

abbrev text16_equal : List ℕ → Value-F Value → Bool
text16_equal text (Value-F.Text16 t) = bytes_eq text t
text16_equal text _ = false

abbrev bin_equal : ℕ → List ℕ → Value-F Value → Bool
bin_equal code octets (Value-F.Bin c o) = (code == c) && bytes_eq octets o
bin_equal code octets _ = false

abbrev map_equal : List (Pair Test) → Value-F Value → Bool
map_equal pairs (Value-F.Map ps) = pairwise pair_passes pairs ps
map_equal pairs _ = false

abbrev list_equal : List Test → Value-F Value → Bool
list_equal items (Value-F.List is) = pairwise passes items is
list_equal items _ = false

abbrev array_equal : ℕ → List Test → Value-F Value → Bool
array_equal code items (Value-F.Array c is) = (code == c) && pairwise passes items is
array_equal code items _ = false

abbrev struct32_equal : List ℕ → Value-F Value → Bool
struct32_equal octets (Value-F.Struct32 o) = bytes_eq octets o
struct32_equal octets _ = false

abbrev bare_equal : ℕ → Value-F Value → Bool
bare_equal code (Value-F.Bare c) = code == c
bare_equal code _ = false

abbrev is_void : Value-F Value → Bool
is_void Value-F.Void = true
is_void _ = false

abbrev is_bit : Value-F Value → Bool
is_bit Value-F.Bit = true
is_bit _ = false

-- one layer equals another: the same variant, the same code and octets, and equal values in it
abbrev pub layer_equal : Value-F Test → Value-F Value → Bool
layer_equal (Value-F.Fixed code octets) b = fixed_equal code octets b
layer_equal (Value-F.Text8 text) b = text8_equal text b
layer_equal (Value-F.Text16 text) b = text16_equal text b
layer_equal (Value-F.Bin code octets) b = bin_equal code octets b
layer_equal (Value-F.Map pairs) b = map_equal pairs b
layer_equal (Value-F.List items) b = list_equal items b
layer_equal (Value-F.Array code items) b = array_equal code items b
layer_equal (Value-F.Struct32 octets) b = struct32_equal octets b
layer_equal (Value-F.Bare code) b = bare_equal code b
layer_equal Value-F.Void b = is_void b
layer_equal Value-F.Bit b = is_bit b

-- what a layer of tests tests
abbrev pub test_by : Value-F Test → Test
test_by layer b = layer_equal layer (out-Value b)

-- the test for being equal to a value
unfoldable pub equal_to : Value → Test
equal_to = fold-Value Test test_by

abbrev pub equal : Value → Value → Bool
equal a b = equal_to a b

abbrev pub pair_test : Pair Value → Pair Test
pair_test p = record { key = p.key; value = equal_to p.value }

-- missing arguments equal missing ones alone
abbrev pub arguments_equal : Option Value → Option Value → Bool
arguments_equal None None = true
arguments_equal None (Some b) = false
arguments_equal (Some a) None = false
arguments_equal (Some a) (Some b) = equal a b
