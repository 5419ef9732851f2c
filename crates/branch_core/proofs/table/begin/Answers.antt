-- The branch is put in.
use Rattle.std.proofs.Common.{◌∙◌, ap, sym}
use Rattle.sorted_map.proofs.Showing.{seen_put, seen_index}
use Rattle.branch_core.specs.Xids.{xid_order, put}
use Rattle.branch_core.specs.Held.{Held, held}
use Rattle.branch_core.specs.State.{branches_of}
use Rattle.branch_core.proofs.Finding.{not_found}
use Rattle.branch_core.proofs.table.begin.Goals as goal

pub put-requires-clause-new : goal.put-requires-clause-new
put-requires-clause-new c = not_found held c.args.xid c.args.branches.now.entries c.requires.new

pub returns-clause-branches : goal.returns-clause-branches
returns-clause-branches c =
    ap branches_of c.put.ensures.entries
    ∙ (seen_put held xid_order c.args.xid c.new.result c.args.branches.now.entries
    ∙ ap (λ (h : Held). put c.args.xid h (branches_of c.args.branches.now.entries)) c.new.ensures)

pub returns-clause-place : goal.returns-clause-place
returns-clause-place c = c.put.ensures.index ∙ sym (seen_index held xid_order c.args.xid c.args.branches.now.entries)
