-- The first run behind the number has it, or none has.
use Rattle.std.proofs.Common.{arith}
use Rattle.serial_ranges.proofs.Splitting.{first_names, no_names}
use Rattle.serial_ranges.proofs.range_set.contains.Goals as goal

pub returns-in-empty : goal.returns-in-empty
returns-in-empty c = no_names c.args.runs.now c.behind.result.now c.args.number c.behind.ensures (omega (arith, c.in-empty.len_below))

pub returns-in-len1-up : goal.returns-in-len1-up
returns-in-len1-up c = first_names c.args.runs.now c.behind.result.now c.args.number c.requires c.behind.ensures (omega (arith, c.in-len1-up.len_at_least))
