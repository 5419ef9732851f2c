-- What the test of each variant asks, by its layer.
use Rattle.std.proofs.Common.{◌≡◌, ℕ, List, map, sym, ap, ◌∙◌}
use Rattle.amqp_values.specs.declared.value.Pair.{Pair}
use Rattle.amqp_values.specs.declared.value.Value.{Value}
use Rattle.amqp_values.specs.declared.value.Value.TheVariants as v
use Rattle.amqp_values.specs.declared.value.Value.TheVariants.{rolls-Fixed, rolls-Text8, rolls-Text16, rolls-Bin, rolls-Map, rolls-List, rolls-Array, rolls-Struct32, rolls-Bare, rolls-Void, rolls-Bit}
use Rattle.amqp_values.specs.declared.value.Value.TheOpen.{Value-F}
use Rattle.amqp_values.specs.declared.value.Value.TheViews.{out-Value, roll-Value}
use Rattle.amqp_values.specs.declared.value.Value.TheFolds.{fold-roll-Value}
use Rattle.header_match.specs.Equality.{Test, equal_to, test_by, layer_equal, pair_test}

module _ (b : Value) where
  -- the test of a value, by its layer
  by_layer : (a : Value) (layer : Value-F Value) → roll-Value layer ≡ a → (tests : Value-F Test) → equal_to (roll-Value layer) ≡ test_by tests → equal_to a b ≡ layer_equal tests (out-Value b)
  by_layer a layer is tests folds = ap (λ (a : Value). equal_to a b) (sym is) ∙ ap (λ (t : Test). t b) folds

  pub of_fixed : (code : ℕ) (octets : List ℕ) → equal_to (v.Fixed code octets) b ≡ layer_equal (Value-F.Fixed code octets) (out-Value b)
  unfolding equal_to
  of_fixed code octets = by_layer (v.Fixed code octets) (Value-F.Fixed code octets) (rolls-Fixed code octets) (Value-F.Fixed code octets) (fold-roll-Value Test test_by (Value-F.Fixed code octets))

  pub of_text8 : (text : List ℕ) → equal_to (v.Text8 text) b ≡ layer_equal (Value-F.Text8 text) (out-Value b)
  unfolding equal_to
  of_text8 text = by_layer (v.Text8 text) (Value-F.Text8 text) (rolls-Text8 text) (Value-F.Text8 text) (fold-roll-Value Test test_by (Value-F.Text8 text))

  pub of_text16 : (text : List ℕ) → equal_to (v.Text16 text) b ≡ layer_equal (Value-F.Text16 text) (out-Value b)
  unfolding equal_to
  of_text16 text = by_layer (v.Text16 text) (Value-F.Text16 text) (rolls-Text16 text) (Value-F.Text16 text) (fold-roll-Value Test test_by (Value-F.Text16 text))

  pub of_bin : (code : ℕ) (octets : List ℕ) → equal_to (v.Bin code octets) b ≡ layer_equal (Value-F.Bin code octets) (out-Value b)
  unfolding equal_to
  of_bin code octets = by_layer (v.Bin code octets) (Value-F.Bin code octets) (rolls-Bin code octets) (Value-F.Bin code octets) (fold-roll-Value Test test_by (Value-F.Bin code octets))

  pub of_map : (pairs : List (Pair Value)) → equal_to (v.Map pairs) b ≡ layer_equal (Value-F.Map (map pair_test pairs)) (out-Value b)
  unfolding equal_to
  of_map pairs = by_layer (v.Map pairs) (Value-F.Map pairs) (rolls-Map pairs) (Value-F.Map (map pair_test pairs)) (fold-roll-Value Test test_by (Value-F.Map pairs))

  pub of_list : (items : List Value) → equal_to (v.List items) b ≡ layer_equal (Value-F.List (map equal_to items)) (out-Value b)
  unfolding equal_to
  of_list items = by_layer (v.List items) (Value-F.List items) (rolls-List items) (Value-F.List (map equal_to items)) (fold-roll-Value Test test_by (Value-F.List items))

  pub of_array : (code : ℕ) (items : List Value) → equal_to (v.Array code items) b ≡ layer_equal (Value-F.Array code (map equal_to items)) (out-Value b)
  unfolding equal_to
  of_array code items = by_layer (v.Array code items) (Value-F.Array code items) (rolls-Array code items) (Value-F.Array code (map equal_to items)) (fold-roll-Value Test test_by (Value-F.Array code items))

  pub of_struct32 : (octets : List ℕ) → equal_to (v.Struct32 octets) b ≡ layer_equal (Value-F.Struct32 octets) (out-Value b)
  unfolding equal_to
  of_struct32 octets = by_layer (v.Struct32 octets) (Value-F.Struct32 octets) (rolls-Struct32 octets) (Value-F.Struct32 octets) (fold-roll-Value Test test_by (Value-F.Struct32 octets))

  pub of_bare : (code : ℕ) → equal_to (v.Bare code) b ≡ layer_equal (Value-F.Bare code) (out-Value b)
  unfolding equal_to
  of_bare code = by_layer (v.Bare code) (Value-F.Bare code) (rolls-Bare code) (Value-F.Bare code) (fold-roll-Value Test test_by (Value-F.Bare code))

  pub of_void : equal_to v.Void b ≡ layer_equal Value-F.Void (out-Value b)
  unfolding equal_to
  of_void = by_layer v.Void Value-F.Void rolls-Void Value-F.Void (fold-roll-Value Test test_by Value-F.Void)

  pub of_bit : equal_to v.Bit b ≡ layer_equal Value-F.Bit (out-Value b)
  unfolding equal_to
  of_bit = by_layer v.Bit Value-F.Bit rolls-Bit Value-F.Bit (fold-roll-Value Test test_by Value-F.Bit)

pub ruleset layers = (of_fixed, of_text8, of_text16, of_bin, of_map, of_list, of_array, of_struct32, of_bare, of_void, of_bit)
