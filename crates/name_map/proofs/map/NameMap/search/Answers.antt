-- The search compares with the name, and what it compares rises.
use Rattle.std.proofs.Common.{rules, of_calls, List, ℕ, IfOk, IfErr, length, subst}
use Rattle.std.proofs.lemmas.Fn.{always_returns_same}
use Rattle.std.specs.List.Sorted.{IsSearchInRange, IsBinarySearchResult}
use Rattle.std.specs.Cmp.Lexicographic.{slice_cmp}
use Rattle.std.specs.Ordering.{nat_cmp}
use Rattle.name_map.specs.Named.{Named, IsPlace, IsGap}
use Rattle.name_map.proofs.Placing.{searched}
use Rattle.name_map.proofs.map.NameMap.search.Given.{Over}
use Rattle.name_map.proofs.map.NameMap.search.Goals as goal

found : (g : Over) (c : goal.After-binary_search_by g) → record { found : IfOk c.binary_search_by.result (IsPlace c.args.name.now c.self.inside.entries.items); gap : IfErr c.binary_search_by.result (IsGap c.args.name.now c.self.inside.entries.items) }
found g c =
    searched c.args.name.now c.self.inside.entries.items c.self.invariant c.binary_search_by.result
    (subst (λ (es : List (List ℕ × g.row.T.Denot)). IsSearchInRange c.binary_search_by.result (length es)) c.deref.ensures.value c.binary_search_by.ensures.bound)
    (subst (λ (es : List (List ℕ × g.row.T.Denot)). IsBinarySearchResult (λ e. slice_cmp nat_cmp e.0 c.args.name.now) es c.binary_search_by.result) c.deref.ensures.value (c.binary_search_by.ensures.position (λ e. slice_cmp nat_cmp e.0 c.args.name.now) (always_returns_same _ _ _ (λ a r f k. search (rules, of_calls)))))

pub returns-clause-found : goal.returns-clause-found
returns-clause-found g c = subst (λ (v : Named g.row.T.Denot). IfOk c.binary_search_by.result (IsPlace c.args.name.now v.entries)) c.self.view_is (found g c).found

pub returns-clause-gap : goal.returns-clause-gap
returns-clause-gap g c = subst (λ (v : Named g.row.T.Denot). IfErr c.binary_search_by.result (IsGap c.args.name.now v.entries)) c.self.view_is (found g c).gap
