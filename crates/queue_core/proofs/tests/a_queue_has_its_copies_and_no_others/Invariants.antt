-- The ledger is the blank's.
use Rattle.queue_core.proofs.tests.a_queue_has_its_copies_and_no_others.Given as goal

abbrev pub ghosts-lived : goal.ghosts-lived
ghosts-lived g a = record { name = a.blank.name; parts = a.blank.parts }
