-- The branch is taken out.
use Rattle.std.proofs.Common.{◌∙◌, Some, ap, sym}
use Rattle.std.specs.Option.{option_map}
use Rattle.sorted_map.proofs.Showing.{seen_find, seen_out}
use Rattle.branch_core.specs.Xids.{xid_order}
use Rattle.branch_core.specs.Held.{held, intents_of}
use Rattle.branch_core.specs.State.{branches_of}
use Rattle.branch_core.proofs.Finding.{is_found}
use Rattle.branch_core.proofs.table.finish.Goals as goal

pub unreachable-requires : goal.unreachable-requires
unreachable-requires c = is_found held c.args.xid.now c.args.branches.now.entries c.requires c.in-None.ensures.none

pub returns-clause-branches : goal.returns-clause-branches
returns-clause-branches c = ap branches_of c.take.ensures.entries ∙ seen_out held xid_order c.args.xid.now c.args.branches.now.entries

pub returns-clause-intents : goal.returns-clause-intents
returns-clause-intents c = ap (λ is. Some is) c.into_intents.ensures ∙ sym (ap (option_map intents_of) (seen_find held xid_order c.args.xid.now c.args.branches.now.entries ∙ ap (option_map held) c.in-Some.ensures.some.1))
