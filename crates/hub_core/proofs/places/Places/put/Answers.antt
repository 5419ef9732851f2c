-- The row of that channel is written, and a look-up of another finds what it found.
use Rattle.std.proofs.Common.{◌≡◌, ◌&&◌, Some, cond, eqb, ◌∙◌, ap, sym, arith}
use Rattle.std.specs.BTreeMap.{is_at, get}
use Rattle.std.proofs.lemmas.Bool.Decides.{nat_tests}
use Rattle.history_model.proofs.Tables.{lookup_same}
use Rattle.hub_core.specs.declared.places.Place.{Place}
use Rattle.hub_core.specs.contracts.places.PlaceOrd.TheImpl.{cmp-value}
use Rattle.hub_core.specs.Places.{holder_in}
use Rattle.hub_core.proofs.places.Places.put.Goals as goal

same_place : (q p : Place) → is_at (cmp-value.it q) p ≡ (eqb p.connection q.connection && eqb p.channel q.channel)
same_place q p = grind (arith, nat_tests)

pub returns-clause-ok : goal.returns-clause-ok
returns-clause-ok c = λ c' k.
    let q : Place = record { connection = c'; channel = k } in
    let at : Place = record { connection = c.args.connection; channel = c.args.channel } in
    let test : Place → _ = λ (p : Place). eqb p.connection c' && eqb p.channel k in
    let written = c.in_ok-insert.ensures.updates.0 q in
    sym (lookup_same (is_at (cmp-value.it q)) test c.insert.new.self.entries (same_place q)) ∙ written
    ∙ ap (λ b. cond b (Some c.args.name) (get cmp-value.it c.self.inside.names q)) (same_place at q)
    ∙ ap (λ o. cond (eqb c' c.args.connection && eqb k c.args.channel) (Some c.args.name) o)
    (lookup_same (is_at (cmp-value.it q)) test c.self.inside.names.entries (same_place q) ∙ ap (λ es. holder_in es c' k) c.self.view_is)
