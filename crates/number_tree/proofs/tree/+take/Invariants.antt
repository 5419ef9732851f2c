-- A half has fewer numbers.
use Rattle.std.proofs.Common.{length}
use Rattle.number_tree.specs.Trees.{numbers}
use Rattle.number_tree.proofs.tree.+take.Given as goal

abbrev pub decreases-take : goal.decreases-take
decreases-take l = length (numbers l.tree)
