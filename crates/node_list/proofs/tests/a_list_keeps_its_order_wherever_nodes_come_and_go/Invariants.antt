-- The ledger is the blank's.
use Rattle.node_list.proofs.tests.a_list_keeps_its_order_wherever_nodes_come_and_go.Given as goal

abbrev pub ghosts-keep_order : goal.ghosts-keep_order
ghosts-keep_order g a = record { name = a.blank.name; parts = a.blank.parts }
