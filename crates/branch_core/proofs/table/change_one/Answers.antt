-- What is written is a change of the branch.
use Rattle.std.proofs.Common.{◌∙◌, Option, ap, sym}
use Rattle.sorted_map.proofs.Showing.{seen_find, seen_changed, unchanged}
use Rattle.std.specs.Option.{option_map}
use Rattle.branch_core.specs.Xids.{xid_order}
use Rattle.branch_core.specs.Held.{Held, held, changed_by}
use Rattle.branch_core.specs.State.{branches_of}
use Rattle.branch_core.specs.Faults.{status_in}
use Rattle.branch_core.proofs.table.change_one.Goals as goal

pub returns-in-Some-clause-branches : goal.returns-in-Some-clause-branches
returns-in-Some-clause-branches c = seen_changed held xid_order c.args.xid.now (changed_by c.args.change) c.args.branches.now.entries c.in-Some.index c.value_mut-branch.result.now c.change.new.self c.in-Some.ensures.index c.value_mut-branch.ensures.value c.in-Some.ensures.some.1 c.change.ensures

pub returns-in-Some-clause-status : goal.returns-in-Some-clause-status
returns-in-Some-clause-status c = ap (λ (h : Held). h.status) c.change.ensures ∙ sym (ap (λ (o : Option Held). status_in (option_map (changed_by c.args.change) o)) (seen_find held xid_order c.args.xid.now c.args.branches.now.entries ∙ ap (option_map held) (sym c.in-Some.ensures.some.1 ∙ c.value_mut-branch.ensures.value)))

pub returns-in-None-clause-branches : goal.returns-in-None-clause-branches
returns-in-None-clause-branches c = sym (unchanged xid_order c.args.xid.now (changed_by c.args.change) (branches_of c.args.branches.now.entries) (seen_find held xid_order c.args.xid.now c.args.branches.now.entries ∙ ap (option_map held) c.in-None.ensures.none))

pub returns-in-None-clause-status : goal.returns-in-None-clause-status
returns-in-None-clause-status c = sym (ap (λ (o : Option Held). status_in (option_map (changed_by c.args.change) o)) (seen_find held xid_order c.args.xid.now c.args.branches.now.entries ∙ ap (option_map held) c.in-None.ensures.none))
