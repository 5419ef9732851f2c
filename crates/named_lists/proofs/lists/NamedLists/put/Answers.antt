-- The list is the name's.
use Rattle.std.proofs.Common.{◌≡◌, ◌∷◌, [], ℕ, List, length, sym, ap, subst, arith}
use Rattle.std.proofs.lemmas.List.{length-append}
use Rattle.named_lists.specs.Lists.{NameLists, Parted, lists_of, times}
use Rattle.named_lists.proofs.Parting.{put_parted, length_put, free_out}
use Rattle.named_lists.proofs.lists.NamedLists.put.Goals as goal

pub invariant_of-self : goal.invariant_of-self
invariant_of-self g c = record {
  parted =
      subst (λ (es : List (List ℕ × (g.row.M.Denot × ℕ))). Parted (lists_of es) c.pop.new.self.items c.self.inside.count) (sym c.put.ensures.entries)
      (put_parted c.args.name (c.args.marks, c.in-Some.list) c.self.inside.names.entries c.pop.new.self.items c.self.inside.count
      (subst (λ (xs : List ℕ). Parted (lists_of c.self.inside.names.entries) xs c.self.inside.count) c.in-Some.ensures.items c.self.invariant.parted));
  ready = record {
    names = omega (arith, c.self.invariant.ready.names, c.put.ensures.room, ap length c.in-Some.ensures.items, length-append c.pop.new.self.items (c.in-Some.list ∷ []));
    lists = omega (arith, c.self.invariant.ready.lists, ap length c.put.ensures.entries, length_put c.args.name (c.args.marks, c.in-Some.list) c.self.inside.names.entries, ap length c.in-Some.ensures.items, length-append c.pop.new.self.items (c.in-Some.list ∷ []), c.pop.ensures.capacity);
  };
}

pub returns-clause-fresh : goal.returns-clause-fresh
returns-clause-fresh g c =
    subst (λ (v : NameLists g.row.M.Denot). times c.in-Some.list (lists_of v.entries) ≡ 0) c.self.view_is
    (free_out (lists_of c.self.inside.names.entries) c.pop.new.self.items c.self.inside.count c.in-Some.list (subst (λ (xs : List ℕ). Parted (lists_of c.self.inside.names.entries) xs c.self.inside.count) c.in-Some.ensures.items c.self.invariant.parted))
