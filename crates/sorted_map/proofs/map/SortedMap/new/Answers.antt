-- An empty map is sorted.
use Rattle.sorted_map.proofs.Ordering.{none_sorted}
use Rattle.sorted_map.proofs.map.SortedMap.new.Goals as goal

pub invariant_of-result : goal.invariant_of-result
invariant_of-result g c = none_sorted g.K.Ord.cmp c.new.result.items c.new.ensures.items
