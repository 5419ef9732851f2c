-- A half has fewer numbers.
use Rattle.std.proofs.Common.{length}
use Rattle.number_tree.specs.Trees.{numbers}
use Rattle.number_tree.proofs.tree.+put.Given as goal

abbrev pub decreases-put : goal.decreases-put
decreases-put l = length (numbers l.tree)
