-- The ledger is the blank's.
use Rattle.queue_core.proofs.queues.Queues.delete.Given as goal

abbrev pub ghosts-clear_by : goal.ghosts-clear_by
ghosts-clear_by a = record { name = a.blank.name; parts = a.blank.parts }
