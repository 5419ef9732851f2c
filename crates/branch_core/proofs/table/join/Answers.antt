-- What is written is a change of the branch.
use Rattle.std.proofs.Common.{◌∙◌, ap, sym}
use Rattle.sorted_map.proofs.Showing.{seen_find, seen_changed, unchanged}
use Rattle.std.specs.Option.{option_map}
use Rattle.branch_core.specs.Xids.{xid_order}
use Rattle.branch_core.specs.Held.{held, joined}
use Rattle.branch_core.specs.State.{branches_of}
use Rattle.branch_core.specs.Faults.{linked_in}
use Rattle.branch_core.proofs.table.join.Goals as goal

pub join-requires : goal.join-requires
join-requires c = sym (ap (linked_in c.args.session) (seen_find held xid_order c.args.xid.now c.args.branches.now.entries ∙ ap (option_map held) (sym c.in-Some.ensures.some.1 ∙ c.value_mut.ensures.value))) ∙ c.requires

pub returns-in-Some : goal.returns-in-Some
returns-in-Some c = seen_changed held xid_order c.args.xid.now (joined c.args.session) c.args.branches.now.entries c.in-Some.index c.value_mut.result.now c.join.new.self c.in-Some.ensures.index c.value_mut.ensures.value c.in-Some.ensures.some.1 c.join.ensures

pub returns-in-None : goal.returns-in-None
returns-in-None c = sym (unchanged xid_order c.args.xid.now (joined c.args.session) (branches_of c.args.branches.now.entries) (seen_find held xid_order c.args.xid.now c.args.branches.now.entries ∙ ap (option_map held) c.in-None.ensures.none))
