-- The ranges so far.
use Rattle.std.proofs.Common.{◌≡◌, ◌++◌, take}
use Rattle.std.specs.Prelude.{flat_map, codes}
use Rattle.octet_tools.specs.Show.{range_text}
use Rattle.octet_tools.proofs.field.push_more.Given as goal

abbrev pub invariant-loop-range : goal.invariant-loop-range
invariant-loop-range l = l.text.items ≡ l.initial.text.items ++ flat_map (λ r. codes "," ++ range_text r) (take l.range-index l.ranges)
