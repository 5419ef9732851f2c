-- Two values of one variant.
use Rattle.std.proofs.Common.{◌≡◌, ℕ, ◌==◌, ◌&&◌, List, map, bytes_eq, sym, ap, ◌∙◌}
use Rattle.amqp_values.specs.declared.value.Pair.{Pair}
use Rattle.amqp_values.specs.declared.value.Value.{Value}
use Rattle.amqp_values.specs.declared.value.Value.TheVariants as v
use Rattle.amqp_values.specs.declared.value.Value.TheVariants.{rolls-Fixed, rolls-Text8, rolls-Text16, rolls-Bin, rolls-Map, rolls-List, rolls-Array, rolls-Struct32, rolls-Bare}
use Rattle.amqp_values.specs.declared.value.Value.TheOpen.{Value-F}
use Rattle.amqp_values.specs.declared.value.Value.TheViews.{out-Value, roll-Value, out-roll-Value}
use Rattle.header_match.specs.Equality.{Test, equal, equal_to, layer_equal, passes, pair_passes, pair_test, pairwise}
use Rattle.header_match.proofs.Layers.{of_fixed, of_text8, of_text16, of_bin, of_map, of_list, of_array, of_struct32, of_bare}

module _ (a b : Value) where
  by_layers : (x y : Value) (tests : Value-F Test) (layer : Value-F Value) → a ≡ x → b ≡ y → equal x b ≡ layer_equal tests (out-Value b) → roll-Value layer ≡ y → layer_equal tests layer ≡ equal a b
  by_layers x y tests layer p q e is = sym (ap (λ (z : Value). equal z b) p ∙ e ∙ ap (layer_equal tests) (ap out-Value (q ∙ sym is) ∙ out-roll-Value layer))

  pub both_fixed : (c d : ℕ) (o p : List ℕ) → a ≡ v.Fixed c o → b ≡ v.Fixed d p → ((c == d) && bytes_eq o p) ≡ equal a b
  both_fixed c d o p e f = by_layers (v.Fixed c o) (v.Fixed d p) (Value-F.Fixed c o) (Value-F.Fixed d p) e f (of_fixed b c o) (rolls-Fixed d p)

  pub both_text8 : (s t : List ℕ) → a ≡ v.Text8 s → b ≡ v.Text8 t → (bytes_eq s t) ≡ equal a b
  both_text8 s t e f = by_layers (v.Text8 s) (v.Text8 t) (Value-F.Text8 s) (Value-F.Text8 t) e f (of_text8 b s) (rolls-Text8 t)

  pub both_text16 : (s t : List ℕ) → a ≡ v.Text16 s → b ≡ v.Text16 t → (bytes_eq s t) ≡ equal a b
  both_text16 s t e f = by_layers (v.Text16 s) (v.Text16 t) (Value-F.Text16 s) (Value-F.Text16 t) e f (of_text16 b s) (rolls-Text16 t)

  pub both_bin : (c d : ℕ) (o p : List ℕ) → a ≡ v.Bin c o → b ≡ v.Bin d p → ((c == d) && bytes_eq o p) ≡ equal a b
  both_bin c d o p e f = by_layers (v.Bin c o) (v.Bin d p) (Value-F.Bin c o) (Value-F.Bin d p) e f (of_bin b c o) (rolls-Bin d p)

  pub both_maps : (ps qs : List (Pair Value)) → a ≡ v.Map ps → b ≡ v.Map qs → (pairwise pair_passes (map pair_test ps) qs) ≡ equal a b
  both_maps ps qs e f = by_layers (v.Map ps) (v.Map qs) (Value-F.Map (map pair_test ps)) (Value-F.Map qs) e f (of_map b ps) (rolls-Map qs)

  pub both_lists : (xs ys : List Value) → a ≡ v.List xs → b ≡ v.List ys → (pairwise passes (map equal_to xs) ys) ≡ equal a b
  both_lists xs ys e f = by_layers (v.List xs) (v.List ys) (Value-F.List (map equal_to xs)) (Value-F.List ys) e f (of_list b xs) (rolls-List ys)

  pub both_arrays : (c d : ℕ) (xs ys : List Value) → a ≡ v.Array c xs → b ≡ v.Array d ys → ((c == d) && pairwise passes (map equal_to xs) ys) ≡ equal a b
  both_arrays c d xs ys e f = by_layers (v.Array c xs) (v.Array d ys) (Value-F.Array c (map equal_to xs)) (Value-F.Array d ys) e f (of_array b c xs) (rolls-Array d ys)

  pub both_struct32 : (o p : List ℕ) → a ≡ v.Struct32 o → b ≡ v.Struct32 p → (bytes_eq o p) ≡ equal a b
  both_struct32 o p e f = by_layers (v.Struct32 o) (v.Struct32 p) (Value-F.Struct32 o) (Value-F.Struct32 p) e f (of_struct32 b o) (rolls-Struct32 p)

  pub both_bare : (c d : ℕ) → a ≡ v.Bare c → b ≡ v.Bare d → (c == d) ≡ equal a b
  both_bare c d e f = by_layers (v.Bare c) (v.Bare d) (Value-F.Bare c) (Value-F.Bare d) e f (of_bare b c) (rolls-Bare d)
