-- The ledger is the blank's.
use Rattle.queue_core.proofs.queues.Queues.add.Given as goal

abbrev pub ghosts-add_by : goal.ghosts-add_by
ghosts-add_by a = record { name = a.blank.name; parts = a.blank.parts }
