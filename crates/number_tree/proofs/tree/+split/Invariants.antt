-- A half has fewer numbers.
use Rattle.std.proofs.Common.{length}
use Rattle.number_tree.specs.Trees.{numbers}
use Rattle.number_tree.proofs.tree.+split.Given as goal

abbrev pub decreases-split : goal.decreases-split
decreases-split l = length (numbers l.tree)
