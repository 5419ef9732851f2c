-- Each turn takes the first available copy out, and at the end there is none.
use Rattle.std.proofs.Common.{◌∙◌, ◌<◌, List, length, sym, ap, subst, slice_set, arith}
use Rattle.std.proofs.lemmas.List.{length-map}
use Rattle.queue_copies.specs.Copied.{Copied, copies_at, available, held_only, removed}
use Rattle.queue_copies.proofs.Purging.{purge_there, purge_step, purge_less, purge_end}
use Rattle.queue_copies.proofs.copies.Copies.purge.Goals as goal

pub remove-requires : goal.remove-requires
remove-requires g c = purge_there c.loop-number.self.lists c.first_free.ensures.ordered c.args.list c.in-Some.number (sym c.first_free.ensures.first ∙ c.in-Some.is)

pub loop-number-smaller : goal.loop-number-smaller
loop-number-smaller g c =
    subst (λ (ls : List (List Copied)). length (available (copies_at ls c.args.list)) < length (available (copies_at c.loop-number.self.lists c.args.list))) (sym c.remove.ensures.lists)
    (purge_less c.loop-number.self.lists c.first_free.ensures.ordered c.args.list c.in-Some.number (sym c.first_free.ensures.first ∙ c.in-Some.is))

pub loop-number-preserved : goal.loop-number-preserved
loop-number-preserved g c = (
  ap (λ (ls : List (List Copied)). slice_set ls c.args.list (held_only (copies_at ls c.args.list))) c.remove.ensures.lists
      ∙ (purge_step c.loop-number.self.lists c.first_free.ensures.ordered c.args.list c.in-Some.number (sym c.first_free.ensures.first ∙ c.in-Some.is) c.loop-number.invariant.1 ∙ c.loop-number.invariant.0),
  omega (arith, c.loop-number.invariant.1, ap length c.remove.ensures.lists, length-map c.loop-number.self.lists (removed c.in-Some.number)),
  c.remove.ensures.spare ∙ c.loop-number.invariant.2,
)

pub returns-clause-lists : goal.returns-clause-lists
returns-clause-lists g c = sym (purge_end c.loop-number.self.lists c.args.list (sym c.first_free.ensures.first ∙ c.in_default.is)) ∙ c.loop-number.invariant.0
