-- What a map ends as, where a `&mut` to what a key stands for is returned.
use Rattle.std.specs.Prelude.{ℕ, Bool, Option}
use Rattle.std.specs.Borrow.{Lends, Fml, RattleType, MutBor}
use Rattle.std.specs.declared.cmp.Ordering.{Ordering}
use Rattle.sorted_map.specs.Map.{Mapped, with_value}
use Rattle.sorted_map.specs.contracts.map.SortedMap.{the_row}

-- what an order of keys says of them
abbrev pub Ordered : Type 0 → Type 0
Ordered K = record { partial_cmp : K → K → Option Ordering; eq : K → K → Bool; cmp : K → K → Ordering }

module _ (K T : RattleType) (key : Ordered K.Denot) (m : MutBor (Mapped K.Denot T.Denot)) (index : ℕ) where
  -- the map's type, as the logic holds it
  abbrev map_row : RattleType
  map_row = the_row K T (record { cmp = key.cmp }) (record { eq = key.eq }) (record { partial_cmp = key.partial_cmp })

  -- once the borrow r ends, the key at the index stands for what was last written through r, and all else stays
  abbrev pub lends_value : MutBor T.Denot → Fml
  lends_value r = Lends map_row T m r (λ value. record m.now { entries = with_value m.now.entries index value })
