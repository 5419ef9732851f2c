-- Each turn takes the next list in.
use Rattle.std.proofs.Common.{◌+◌, ◌∷◌, [], ℕ, List, length, nat_eq, sym, ap, subst, arith}
use Rattle.std.proofs.lemmas.List.{length-append}
use Rattle.indexmap.specs.IndexMap.{get}
use Rattle.held_copies.specs.Lanes.{Apart}
use Rattle.held_copies.proofs.Laning.{push_apart}
use Rattle.held_copies.proofs.lanes.Lanes.widen.Goals as goal

pub loop-list-preserved : goal.loop-list-preserved
loop-list-preserved c = (
  c.loop-list.invariant.0,
  c.loop-list.invariant.1,
  c.loop-list.invariant.2,
  omega (arith, c.loop-list.invariant.3, ap length c.push_reserved.ensures.items, length-append c.loop-list.self-inside.free.items (c.loop-list.list ∷ [])),
  omega (arith, c.loop-list.invariant.4),
  omega (arith, c.loop-list-test.true),
  subst (λ (xs : List ℕ). Apart (get nat_eq c.loop-list.self-inside.of) xs (c.loop-list.list + 1)) (sym c.push_reserved.ensures.items)
      (push_apart (get nat_eq c.loop-list.self-inside.of) c.loop-list.self-inside.free.items c.loop-list.list c.loop-list.invariant.6),
  omega (arith, c.loop-list.invariant.7, ap length c.push_reserved.ensures.items, length-append c.loop-list.self-inside.free.items (c.loop-list.list ∷ []), c.push_reserved.ensures.capacity, c.loop-list-test.true),
)
