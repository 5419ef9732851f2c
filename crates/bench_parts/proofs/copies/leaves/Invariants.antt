-- The ledger is the blank's.
use Rattle.bench_parts.proofs.copies.leaves.Given as goal

abbrev pub ghosts-leaves_by : goal.ghosts-leaves_by
ghosts-leaves_by a = record { name = a.blank.name; parts = a.blank.parts }
