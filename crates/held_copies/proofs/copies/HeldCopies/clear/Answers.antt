-- Each turn takes the first copy out, and at the end there is none.
use Rattle.std.proofs.Common.{◌∙◌, ◌<◌, [], List, length, sym, ap, subst, slice_set, arith}
use Rattle.std.proofs.lemmas.List.{length-map}
use Rattle.queue_copies.specs.Copied.{Copied, copies_at, removed}
use Rattle.held_copies.proofs.Filling.{first_there, clear_step, clear_less, clear_end}
use Rattle.held_copies.proofs.copies.HeldCopies.clear.Goals as goal

pub accept-requires : goal.accept-requires
accept-requires g c = first_there c.loop-number.self.lists c.args.list c.in-Some.number (sym c.first.ensures.first ∙ c.in-Some.is)

pub loop-number-smaller : goal.loop-number-smaller
loop-number-smaller g c =
    subst (λ (ls : List (List Copied)). length (copies_at ls c.args.list) < length (copies_at c.loop-number.self.lists c.args.list)) (sym c.accept.ensures.lists)
    (clear_less c.loop-number.self.lists c.first.ensures.ordered c.args.list c.in-Some.number (sym c.first.ensures.first ∙ c.in-Some.is))

pub loop-number-preserved : goal.loop-number-preserved
loop-number-preserved g c = (
  ap (λ (ls : List (List Copied)). slice_set ls c.args.list []) c.accept.ensures.lists
      ∙ (clear_step c.loop-number.self.lists c.first.ensures.ordered c.args.list c.in-Some.number (sym c.first.ensures.first ∙ c.in-Some.is) c.loop-number.invariant.1 ∙ c.loop-number.invariant.0),
  omega (arith, c.loop-number.invariant.1, ap length c.accept.ensures.lists, length-map c.loop-number.self.lists (removed c.in-Some.number)),
  c.accept.ensures.spare ∙ c.loop-number.invariant.2,
  c.accept.ensures.sessions ∙ c.loop-number.invariant.3,
)

pub returns-clause-lists : goal.returns-clause-lists
returns-clause-lists g c = sym (clear_end c.loop-number.self.lists c.args.list (sym c.first.ensures.first ∙ c.in_default.is)) ∙ c.loop-number.invariant.0
