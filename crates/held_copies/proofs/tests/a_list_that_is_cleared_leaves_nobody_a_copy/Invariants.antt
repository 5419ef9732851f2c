-- The ledger is the blank's.
use Rattle.held_copies.proofs.tests.a_list_that_is_cleared_leaves_nobody_a_copy.Given as goal

abbrev pub ghosts-clear : goal.ghosts-clear
ghosts-clear g a = record { name = a.blank.name; parts = a.blank.parts }
