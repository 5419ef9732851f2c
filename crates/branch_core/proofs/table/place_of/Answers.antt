-- The place is the same among what is seen.
use Rattle.std.proofs.Common.{◌∙◌, sym}
use Rattle.sorted_map.proofs.Showing.{seen_index}
use Rattle.branch_core.specs.Xids.{xid_order}
use Rattle.branch_core.specs.Held.{held}
use Rattle.branch_core.proofs.Finding.{is_found}
use Rattle.branch_core.proofs.table.place_of.Goals as goal

pub unreachable-requires : goal.unreachable-requires
unreachable-requires c = is_found held c.args.xid.now c.args.branches.now.entries c.requires c.in-None.ensures.none

pub returns-clause-place : goal.returns-clause-place
returns-clause-place c = c.in-Some.ensures.index ∙ sym (seen_index held xid_order c.args.xid.now c.args.branches.now.entries)
