-- The intents are the same among what is seen.
use Rattle.std.proofs.Common.{◌≡◌, ◌<◌, ◌∙◌, ℕ, length, slice_index_or, Some, ap, sym, subst}
use Rattle.std.specs.Option.{option_map}
use Rattle.sorted_map.specs.Map.{value_at}
use Rattle.sorted_map.proofs.Showing.{seen_length, seen_value, value_of}
use Rattle.branch_core.specs.Held.{held, intents_of}
use Rattle.branch_core.specs.State.{Branched}
use Rattle.branch_core.proofs.branches.Branches.intents_at.Goals as goal

pub returns : goal.returns
returns c =
    subst (λ (v : Branched). option_map intents_of (value_at v.state.branches c.args.place) ≡ Some (slice_index_or c.entries.result.now c.args.place c.index-entries-place.result).1.intents.items) c.self.view_is
    (ap (option_map intents_of) (seen_value held c.self.inside.branches.entries c.args.place
    ∙ ap (option_map held) (ap (λ es. value_at es c.args.place) (sym c.entries.ensures.entries)
    ∙ value_of held c.entries.result.now c.args.place c.index-entries-place.result
    (subst (λ es. c.args.place < length es) (sym c.entries.ensures.entries) (subst (λ (n : ℕ). c.args.place < n) (seen_length held c.self.inside.branches.entries) (subst (λ (v : Branched). c.args.place < length v.state.branches) (sym c.self.view_is) c.requires))))))
