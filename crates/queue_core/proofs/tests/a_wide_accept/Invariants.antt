-- The ledger is the blank's.
use Rattle.queue_core.proofs.tests.a_wide_accept.Given as goal

abbrev pub ghosts-accepted : goal.ghosts-accepted
ghosts-accepted g a = record { name = a.blank.name; parts = a.blank.parts }
