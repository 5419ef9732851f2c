-- The ledger is the blank's.
use Rattle.held_copies.proofs.tests.a_session_has_what_it_holds_and_no_more.Given as goal

abbrev pub ghosts-leave : goal.ghosts-leave
ghosts-leave g a = record { name = a.blank.name; parts = a.blank.parts }
