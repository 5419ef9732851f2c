-- Each turn takes the next list in.
use Rattle.std.proofs.Common.{◌+◌, ◌∷◌, [], ℕ, List, length, sym, ap, subst, arith}
use Rattle.std.proofs.lemmas.List.{length-append}
use Rattle.named_lists.specs.Lists.{Parted, lists_of}
use Rattle.named_lists.proofs.Parting.{widen_parted}
use Rattle.named_lists.proofs.lists.NamedLists.widen.Goals as goal

pub loop-list-preserved : goal.loop-list-preserved
loop-list-preserved g c = (
  c.loop-list.invariant.0,
  c.loop-list.invariant.1,
  omega (arith, c.loop-list.invariant.2, ap length c.push_reserved.ensures.items, length-append c.loop-list.self-inside.free.items (c.loop-list.list ∷ [])),
  omega (arith, c.loop-list.invariant.3),
  omega (arith, c.loop-list-test.true),
  subst (λ (xs : List ℕ). Parted (lists_of c.loop-list.self-inside.names.entries) xs (c.loop-list.list + 1)) (sym c.push_reserved.ensures.items)
      (widen_parted (lists_of c.loop-list.self-inside.names.entries) c.loop-list.self-inside.free.items c.loop-list.list c.loop-list.invariant.5),
  omega (arith, c.loop-list.invariant.6, ap length c.push_reserved.ensures.items, length-append c.loop-list.self-inside.free.items (c.loop-list.list ∷ []), c.push_reserved.ensures.capacity, c.loop-list-test.true),
  omega (arith, c.loop-list.invariant.7, ap length c.push_reserved.ensures.items, length-append c.loop-list.self-inside.free.items (c.loop-list.list ∷ []), c.loop-list-test.true),
)
