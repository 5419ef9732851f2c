-- The number after the first run behind it, or the number itself.
use Rattle.std.proofs.Common.{arith, ◌∙◌, sym}
use Rattle.std.proofs.lemmas.Bool.{lt-leb}
use Rattle.serial_ranges.proofs.Splitting.{first_names, no_names, first_missing, first_small, missing_here}
use Rattle.serial_ranges.proofs.range_set.least_missing.Goals as goal

pub overflow_add-result : goal.overflow_add-result
overflow_add-result c = omega (arith, first_small c.args.runs.now c.behind.result.now c.args.from c.requires.runs c.behind.ensures)

pub returns-in-empty : goal.returns-in-empty
returns-in-empty c = missing_here c.args.runs.now c.args.from (sym (no_names c.args.runs.now c.behind.result.now c.args.from c.behind.ensures (omega (arith, c.in-empty.len_below))))

pub returns-then-run-from : goal.returns-then-run-from
returns-then-run-from c =
    first_missing c.args.runs.now c.behind.result.now c.args.from c.requires.runs c.behind.ensures (omega (arith, c.in-len1-up.len_at_least)) c.if-run-from.true

pub returns-else-run-from : goal.returns-else-run-from
returns-else-run-from c =
    missing_here c.args.runs.now c.args.from
    (sym (first_names c.args.runs.now c.behind.result.now c.args.from c.requires.runs c.behind.ensures (omega (arith, c.in-len1-up.len_at_least))) ∙ lt-leb _ c.args.from c.if-run-from.false)
