-- The ledger is the blank's.
use Rattle.queue_copies.proofs.iter.CopiesIterIterator.next.Given as goal

abbrev pub ghosts-read_by : goal.ghosts-read_by
ghosts-read_by a = record { name = a.blank.name; parts = a.blank.parts }
