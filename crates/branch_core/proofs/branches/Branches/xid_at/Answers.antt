-- The names are the same among what is seen.
use Rattle.std.proofs.Common.{◌≡◌, ◌<◌, ◌∙◌, ℕ, length, slice_index_or, Some, ap, sym, subst}
use Rattle.sorted_map.specs.Map.{key_at}
use Rattle.sorted_map.proofs.Showing.{seen_length, seen_key, key_is}
use Rattle.branch_core.specs.Held.{held}
use Rattle.branch_core.specs.State.{Branched}
use Rattle.branch_core.proofs.branches.Branches.xid_at.Goals as goal

pub returns : goal.returns
returns c =
    subst (λ (v : Branched). key_at v.state.branches c.args.place ≡ Some (slice_index_or c.entries.result.now c.args.place c.index-entries-place.result).0) c.self.view_is
    (seen_key held c.self.inside.branches.entries c.args.place
    ∙ (ap (λ es. key_at es c.args.place) (sym c.entries.ensures.entries)
    ∙ key_is held c.entries.result.now c.args.place c.index-entries-place.result
    (subst (λ es. c.args.place < length es) (sym c.entries.ensures.entries) (subst (λ (n : ℕ). c.args.place < n) (seen_length held c.self.inside.branches.entries) (subst (λ (v : Branched). c.args.place < length v.state.branches) (sym c.self.view_is) c.requires)))))
