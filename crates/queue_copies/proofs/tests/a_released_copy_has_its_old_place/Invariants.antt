-- The ledger is the blank's.
use Rattle.queue_copies.proofs.tests.a_released_copy_has_its_old_place.Given as goal

abbrev pub ghosts-release : goal.ghosts-release
ghosts-release g a = record { name = a.blank.name; parts = a.blank.parts }
