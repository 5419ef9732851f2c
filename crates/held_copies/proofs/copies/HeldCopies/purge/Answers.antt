-- What was held is held as before.
use Rattle.std.proofs.Common.{◌∙◌, List, ap, sym, subst, slice_set, length}
use Rattle.std.proofs.lemmas.List.{length-set}
use Rattle.queue_copies.specs.Copied.{Copied, copies_at, held_only}
use Rattle.held_copies.specs.Holding.{Fits}
use Rattle.held_copies.proofs.Filling.{held_fits, purge_held}
use Rattle.held_copies.proofs.copies.HeldCopies.purge.Goals as goal

pub invariant_of-self : goal.invariant_of-self
invariant_of-self g c = record {
  fits =
      subst (λ (ls : List (List Copied)). Fits c.self.inside.lanes ls) (sym c.purge.ensures.lists)
      (held_fits c.self.inside.lanes c.self.inside.copies.lists (slice_set c.self.inside.copies.lists c.args.list (held_only (copies_at c.self.inside.copies.lists c.args.list)))
      (purge_held c.self.inside.copies.lists c.purge.ensures.ordered c.args.list) c.self.invariant.fits);
  count = c.self.invariant.count ∙ sym (ap length c.purge.ensures.lists ∙ length-set c.self.inside.copies.lists c.args.list (held_only (copies_at c.self.inside.copies.lists c.args.list)));
  some = c.self.invariant.some;
}
