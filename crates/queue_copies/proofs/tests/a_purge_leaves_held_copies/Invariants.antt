-- The ledger is the blank's.
use Rattle.queue_copies.proofs.tests.a_purge_leaves_held_copies.Given as goal

abbrev pub ghosts-leave : goal.ghosts-leave
ghosts-leave g a = record { name = a.blank.name; parts = a.blank.parts }
