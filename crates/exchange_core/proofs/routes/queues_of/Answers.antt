-- A queue more, where it differs from the one before.
use Rattle.std.proofs.Common.{rules, ◌≡◌, ◌∙◌, ◌++◌, ◌∷◌, [], not, List, ℕ, true, sym, ap}
use Rattle.std.specs.Option.{option_copied}
use Rattle.exchange_core.specs.Routes.{Rowed, takes, is_same, last_of}
use Rattle.exchange_core.proofs.Gathering.{left, gained, both_true}
use Rattle.exchange_core.proofs.routes.queues_of.Goals as goal

pub loop-row-preserved-then-not-is_last : goal.loop-row-preserved-then-not-is_last
loop-row-preserved-then-not-is_last c =
    let taken : takes c.args.kind c.args.key.now (option_copied c.args.headers) c.in-Some.row.now ≡ true = search rules in
    let other : not (is_same (last_of c.loop-row.names.items) c.in-Some.row.now.binding.queue) ≡ true = search rules in
    let names : c.push.new.self.items ≡ c.loop-row.names.items ++ c.in-Some.row.now.binding.queue ∷ [] = search rules in
    ap (λ (ns : List (List ℕ)). left c.args.kind c.args.key.now (option_copied c.args.headers) ns c.next.new.self) names
    ∙ (sym (gained c.args.kind c.args.key.now (option_copied c.args.headers) c.loop-row.names.items c.in-Some.row.now c.next.new.self (both_true taken other))
    ∙ (ap (λ (rs : List Rowed). left c.args.kind c.args.key.now (option_copied c.args.headers) c.loop-row.names.items rs) (sym c.in-Some.ensures.steps) ∙ c.loop-row.invariant))
