-- What is found is seen.
use Rattle.std.proofs.Common.{◌∙◌, ap, sym}
use Rattle.sorted_map.proofs.Showing.{seen_through, seen_find}
use Rattle.std.specs.Option.{option_map}
use Rattle.branch_core.specs.Xids.{xid_order}
use Rattle.branch_core.specs.Held.{held}
use Rattle.branch_core.proofs.table.branch.Goals as goal

pub returns : goal.returns
returns c = seen_through held c.get.result ∙ (ap (option_map held) c.get.ensures ∙ sym (seen_find held xid_order c.args.xid.now c.args.branches.now.entries))
