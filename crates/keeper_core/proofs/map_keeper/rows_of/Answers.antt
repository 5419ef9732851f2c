use Rattle.keeper_core.proofs.Table.{rising}
use Rattle.keeper_core.proofs.map_keeper.rows_of.Goals as goal

pub returns-clause-rising : goal.returns-clause-rising
returns-clause-rising c = rising c.args.table.now.entries c.iter-key-items.ensures.ordered
