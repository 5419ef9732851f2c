-- Sessions keep their lists, and the new ones are empty.
use Rattle.std.proofs.Common.{◌∙◌, ◌<◌, ◌++◌, [], ℕ, List, replicate, length, ap, sym, subst, arith}
use Rattle.std.proofs.lemmas.List.{length-append}
use Rattle.queue_copies.specs.Copied.{Copied}
use Rattle.held_copies.specs.Holding.{Fits}
use Rattle.held_copies.proofs.Tying.{same_fits}
use Rattle.held_copies.proofs.Filling.{held_fits, grown_held}
use Rattle.held_copies.proofs.copies.HeldCopies.room.Goals as goal

pub invariant_of-self : goal.invariant_of-self
invariant_of-self c = record {
  fits = same_fits c.self.inside.lanes c.reserve.new.self c.self.inside.copies.lists c.reserve.ensures.of c.self.invariant.fits;
  count = c.reserve.ensures.count ∙ c.self.invariant.count;
  some = subst (λ (m : ℕ). 0 < m) (sym c.reserve.ensures.count) c.self.invariant.some;
}

pub invariant_of-self-in_err-widen : goal.invariant_of-self-in_err-widen
invariant_of-self-in_err-widen c = record {
  fits =
      subst (λ (ls : List (List Copied)). Fits c.reserve.new.self ls) (sym (ap (λ v. v.lists) c.in_err-widen.ensures.err))
      (same_fits c.self.inside.lanes c.reserve.new.self c.self.inside.copies.lists c.reserve.ensures.of c.self.invariant.fits);
  count = c.reserve.ensures.count ∙ (c.self.invariant.count ∙ sym (ap (λ v. length v.lists) c.in_err-widen.ensures.err));
  some = subst (λ (m : ℕ). 0 < m) (sym c.reserve.ensures.count) c.self.invariant.some;
}

pub invariant_of-self-2 : goal.invariant_of-self-2
invariant_of-self-2 c = record {
  fits =
      subst (λ (ls : List (List Copied)). Fits c.widen-2.new.self ls) (sym c.in_ok-widen.ensures.lists)
      (held_fits c.widen-2.new.self c.self.inside.copies.lists (c.self.inside.copies.lists ++ replicate c.max-more.result []) (grown_held c.self.inside.copies.lists c.max-more.result)
      (same_fits c.self.inside.lanes c.widen-2.new.self c.self.inside.copies.lists (c.widen-2.ensures.of ∙ c.reserve.ensures.of) c.self.invariant.fits));
  count = c.widen-2.ensures.count ∙ c.lists.ensures.lists;
  some = omega (arith, c.widen-2.ensures.count, c.lists.ensures.lists, ap length c.in_ok-widen.ensures.lists, length-append c.self.inside.copies.lists (replicate {A = List Copied} c.max-more.result []), c.self.invariant.some, c.self.invariant.count);
}
