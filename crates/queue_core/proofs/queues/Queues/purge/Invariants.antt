-- The ledger is the blank's.
use Rattle.queue_core.proofs.queues.Queues.purge.Given as goal

abbrev pub ghosts-purge_by : goal.ghosts-purge_by
ghosts-purge_by a = record { name = a.blank.name; parts = a.blank.parts }
