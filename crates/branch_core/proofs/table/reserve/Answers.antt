-- Room alone is written.
use Rattle.std.proofs.Common.{◌≤◌, ◌∙◌, ℕ, OnOk, sym, ap, subst}
use Rattle.std.specs.Option.{option_map}
use Rattle.sorted_map.specs.Map.{with_value}
use Rattle.sorted_map.proofs.Showing.{seen_same, seen_value, value_with}
use Rattle.branch_core.specs.declared.branch.Branch.{Branch}
use Rattle.branch_core.specs.Held.{held}
use Rattle.branch_core.specs.State.{room_in}
use Rattle.branch_core.proofs.table.reserve.Goals as goal

pub returns-clause-branches : goal.returns-clause-branches
returns-clause-branches c =
    let old = c.value_mut.result.now in
    let new : Branch = record { sessions = old.sessions; status = old.status; prepared = old.prepared; intents = c.reserve.new.self; seconds = old.seconds; deadline = old.deadline } in
    seen_same held c.args.branches.now.entries c.args.place old new c.value_mut.ensures.value (ap (λ items. record (held old) { intents = items }) c.reserve.ensures.items)

pub returns-clause-ok : goal.returns-clause-ok
returns-clause-ok c =
    let old = c.value_mut.result.now in
    let new : Branch = record { sessions = old.sessions; status = old.status; prepared = old.prepared; intents = c.reserve.new.self; seconds = old.seconds; deadline = old.deadline } in
    subst (λ (n : ℕ). OnOk c.reserve.result (c.args.more ≤ n))
    (sym (ap room_in (seen_value (λ b. b.intents.room) (with_value c.args.branches.now.entries c.args.place new) c.args.place ∙ ap (option_map _) (value_with c.args.branches.now.entries c.args.place new c.requires))))
    c.reserve.ensures.ok
