-- A half has fewer numbers.
use Rattle.std.proofs.Common.{length}
use Rattle.number_tree.specs.Trees.{numbers}
use Rattle.number_tree.proofs.tree.+least_above.Given as goal

abbrev pub decreases-least_above : goal.decreases-least_above
decreases-least_above l = length (numbers l.tree.now)
