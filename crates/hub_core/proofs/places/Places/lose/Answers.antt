-- The rows of that connection are gone, and a look-up of another finds what it found.
use Rattle.std.proofs.Common.{◌≡◌, ◌&&◌, not, true, false, ℕ, List, Option, None, cond, eqb, ◌∙◌, ap, refl, arith, rules}
use Rattle.std.specs.List.{filter}
use Rattle.std.proofs.lemmas.Bool.Decides.{nat_tests}
use Rattle.std.proofs.lemmas.Map.Made.{filter_same_pairs}
use Rattle.std.proofs.lemmas.Map.Entries.{lookup-filter-keys}
use Rattle.hub_core.specs.declared.places.Place.{Place}
use Rattle.hub_core.specs.Places.{holder_in}
use Rattle.hub_core.proofs.places.Places.lose.Goals as goal

-- what a look-up finds among the rows of other connections
among_others : (rows : List (Place × List ℕ)) (connection c k : ℕ)
    → holder_in (filter (λ e. not (eqb e.0.connection connection)) rows) c k ≡ cond (eqb c connection) None (holder_in rows c k)
among_others rows connection c k =
    lookup-filter-keys (λ (p : Place). eqb p.connection c && eqb p.channel k) (λ (p : Place). not (eqb p.connection connection)) (not (eqb c connection))
    (λ p t. grind (arith, nat_tests)) rows
    ∙ turned (eqb c connection) (holder_in rows c k)
  where
    turned : (b : _) (o : Option (List ℕ)) → cond (not b) o None ≡ cond b None o
    turned true o = refl
    turned false o = refl

pub returns : goal.returns
returns c = λ c' k.
    ap (λ rows. holder_in rows c' k) (filter_same_pairs _ (λ e. not (eqb e.0.connection c.args.connection)) _ (λ p v b w f' t. search rules) _ _ c.retain.ensures.filtered)
    ∙ among_others c.self.inside.names.entries c.args.connection c' k
    ∙ ap (λ es. cond (eqb c' c.args.connection) None (holder_in es c' k)) c.self.view_is
