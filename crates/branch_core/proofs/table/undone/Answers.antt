-- The test looks at what is seen.
use Rattle.std.proofs.Common.{◌∙◌}
use Rattle.sorted_map.proofs.Showing.{seen_position}
use Rattle.branch_core.specs.Held.{held, is_undone}
use Rattle.branch_core.proofs.table.undone.Goals as goal

pub returns-clause-place : goal.returns-clause-place
returns-clause-place c = c.first_undone.ensures.place ∙ seen_position held is_undone c.args.entries.now
