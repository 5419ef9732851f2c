-- All lists are empty.
use Rattle.std.proofs.Common.{◌∙◌, ◌++◌, replicate, sym, ap, List, ℕ, nat_eq}
use Rattle.std.proofs.lemmas.Option.{none-some}
use Rattle.std.specs.Map.{lookup}
use Rattle.queue_copies.specs.Shelves.{Shelved, empty_shelf}
use Rattle.queue_copies.proofs.Widening.{new_whole, new_view}
use Rattle.queue_copies.proofs.copies.Copies.new.Goals as goal

pub invariant_of-result : goal.invariant_of-result
invariant_of-result c =
    record {
      whole =
          new_whole c.in_ok-nodes.nodes c.new-2.result c.push_empty.new.shelves.items c.new-3.result.items c.args.lists
          c.in_ok-nodes.ensures.items c.in_ok-nodes.ensures.lists c.in_ok-nodes.ensures.held c.new-2.ensures.empty
          (c.push_empty.ensures ∙ ap (λ (ss : List Shelved). ss ++ replicate c.args.lists empty_shelf) (c.reserve.ensures.items ∙ c.new-shelves.ensures.items)) c.new-3.ensures.items;
      greatest_of = λ m key q. absurd (none-some key (sym (ap (λ (es : List (ℕ × ℕ)). lookup (nat_eq m) es) c.new-2.ensures.empty) ∙ q));
    }

pub returns-clause-lists : goal.returns-clause-lists
returns-clause-lists c =
    new_view c.in_ok-nodes.nodes c.new-2.result c.push_empty.new.shelves.items c.new-3.result.items c.args.lists c.in_ok-nodes.ensures.lists
