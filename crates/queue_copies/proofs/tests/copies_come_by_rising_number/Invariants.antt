-- The ledger is the blank's.
use Rattle.queue_copies.proofs.tests.copies_come_by_rising_number.Given as goal

abbrev pub ghosts-listed : goal.ghosts-listed
ghosts-listed g a = record { name = a.blank.name; parts = a.blank.parts }
