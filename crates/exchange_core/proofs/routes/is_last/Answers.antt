-- The last name is the one at the last index.
use Rattle.std.proofs.Common.{rules, ◌≡◌, ◌∙◌, ℕ, List, Option, Some, ap}
use Rattle.exchange_core.specs.Routes.{is_same, last_of}
use Rattle.exchange_core.proofs.Gathering.{last_get}
use Rattle.exchange_core.proofs.routes.is_last.Goals as goal

pub returns-in-Some : goal.returns-in-Some
returns-in-Some c =
    let last : Some c.in-Some.last.now ≡ last_of c.args.names.now.items = search (rules, last_get) in
    c.eq.ensures ∙ ap (λ (o : Option (List ℕ)). is_same o c.args.name.now) last
