-- What a `Lists` ends as, where a `&mut` to one of its items is returned.
use Rattle.std.specs.Prelude.{ℕ, Some, slice_set}
use Rattle.std.specs.Borrow.{Lends, Fml, RattleType, MutBor}
use Rattle.node_list.specs.Lists.{Listed}
use Rattle.node_list.specs.contracts.lists.Lists.{the_row}

module _ (T : RattleType) (l : MutBor (Listed T.Denot)) (key : ℕ) where
  -- once the borrow r ends, the key has the last item written through r, and all lists stay
  abbrev pub lends_item : MutBor T.Denot → Fml
  lends_item r = Lends (the_row T) T l r (λ item. record l.now { items = slice_set l.now.items key (Some item) })
