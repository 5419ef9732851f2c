-- What was held is held as before.
use Rattle.std.proofs.Common.{◌∙◌, ◌++◌, ◌∷◌, [], None, List, ap, sym, subst, refl, slice_set, length}
use Rattle.std.proofs.lemmas.List.{length-set}
use Rattle.queue_copies.specs.Copied.{Copied, copies_at}
use Rattle.held_copies.specs.Holding.{Fits}
use Rattle.held_copies.proofs.Filling.{held_fits, add_held}
use Rattle.held_copies.proofs.copies.HeldCopies.add.Goals as goal

pub invariant_of-self : goal.invariant_of-self
invariant_of-self g c = record {
  fits =
      subst (λ (ls : List (List Copied)). Fits c.self.inside.lanes ls) (sym c.add.ensures.lists)
      (held_fits c.self.inside.lanes c.self.inside.copies.lists (slice_set c.self.inside.copies.lists c.args.list (copies_at c.self.inside.copies.lists c.args.list ++ record { copy = c.args.copy; hold = None } ∷ []))
      (add_held c.self.inside.copies.lists c.args.list (record { copy = c.args.copy; hold = None }) refl) c.self.invariant.fits);
  count = c.self.invariant.count ∙ sym (ap length c.add.ensures.lists ∙ length-set c.self.inside.copies.lists c.args.list (copies_at c.self.inside.copies.lists c.args.list ++ record { copy = c.args.copy; hold = None } ∷ []));
  some = c.self.invariant.some;
}
