-- The ledger is the blank's.
use Rattle.queue_core.proofs.queues.Queues.first_held.Given as goal

abbrev pub ghosts-first_held_by : goal.ghosts-first_held_by
ghosts-first_held_by a = record { name = a.blank.name; parts = a.blank.parts }
