-- The ledger is the blank's.
use Rattle.node_list.proofs.tests.a_holder_has_first_what_it_has_had_longest.Given as goal

abbrev pub ghosts-keep_holders : goal.ghosts-keep_holders
ghosts-keep_holders g a = record { name = a.blank.name; parts = a.blank.parts }
