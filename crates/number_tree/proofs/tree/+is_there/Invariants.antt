-- A half has fewer numbers.
use Rattle.std.proofs.Common.{length}
use Rattle.number_tree.specs.Trees.{numbers}
use Rattle.number_tree.proofs.tree.+is_there.Given as goal

abbrev pub decreases-is_there : goal.decreases-is_there
decreases-is_there l = length (numbers l.tree.now)
