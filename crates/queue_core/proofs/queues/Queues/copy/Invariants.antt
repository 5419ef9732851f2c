-- The ledger is the blank's.
use Rattle.queue_core.proofs.queues.Queues.copy.Given as goal

abbrev pub ghosts-copy_by : goal.ghosts-copy_by
ghosts-copy_by a = record { name = a.blank.name; parts = a.blank.parts }
