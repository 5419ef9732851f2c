-- The numbers of a tree, from left to right.
use Rattle.std.specs.Prelude.{ℕ, List, [], ◌∷◌, ◌++◌}
use Rattle.number_tree.specs.declared.tree.Tree.{Tree}
use Rattle.number_tree.specs.declared.tree.Tree.TheVariants.{Empty, Fork'}

abbrev pub numbers : Tree → List ℕ
numbers Empty = []
numbers (Fork' p left number right) = numbers left ++ number ∷ numbers right
