-- A half has fewer numbers.
use Rattle.std.proofs.Common.{length}
use Rattle.number_tree.specs.Trees.{numbers}
use Rattle.number_tree.proofs.tree.+least.Given as goal

abbrev pub decreases-least : goal.decreases-least
decreases-least l = length (numbers l.tree.now)
