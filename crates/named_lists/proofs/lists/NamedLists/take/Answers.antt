-- The name's list is free, and without the name nothing changed.
use Rattle.std.proofs.Common.{◌∙◌, ◌∷◌, [], ℕ, List, length, sym, ap, subst, arith}
use Rattle.std.proofs.lemmas.List.{length-append}
use Rattle.name_map.specs.Named.{out}
use Rattle.name_map.proofs.Placing.{out_none}
use Rattle.named_lists.specs.Lists.{Parted, lists_of}
use Rattle.named_lists.proofs.Parting.{take_parted, length_out}
use Rattle.named_lists.proofs.lists.NamedLists.take.Goals as goal

pub invariant_of-self : goal.invariant_of-self
invariant_of-self g c =
    let same = c.take.ensures.entries ∙ out_none c.args.name.now c.self.inside.names.entries c.in_err-taken.ensures.none in
    record {
      parted = subst (λ (es : List (List ℕ × (g.row.M.Denot × ℕ))). Parted (lists_of es) c.self.inside.free.items c.self.inside.count) (sym same) c.self.invariant.parted;
      ready = record {
        names = omega (arith, c.self.invariant.ready.names, c.in_err-taken.ensures.kept);
        lists = omega (arith, c.self.invariant.ready.lists, ap length same);
      };
    }

pub invariant_of-self-2 : goal.invariant_of-self-2
invariant_of-self-2 g c = record {
  parted =
      subst (λ (es : List (List ℕ × (g.row.M.Denot × ℕ))). Parted (lists_of es) c.push_reserved.new.self.items c.self.inside.count) (sym c.take.ensures.entries)
      (subst (λ (xs : List ℕ). Parted (lists_of (out c.args.name.now c.self.inside.names.entries)) xs c.self.inside.count) (sym c.push_reserved.ensures.items)
      (take_parted c.args.name.now c.self.inside.names.entries c.in_ok-taken.taken.1 c.self.inside.free.items c.self.inside.count c.in_ok-taken.ensures.some.1 c.self.invariant.parted));
  ready = record {
    names = omega (arith, c.self.invariant.ready.names, c.in_ok-taken.ensures.room, ap length c.push_reserved.ensures.items, length-append c.self.inside.free.items (c.in_ok-taken.taken.1.1 ∷ []));
    lists = omega (arith, c.self.invariant.ready.lists, ap length c.take.ensures.entries, length_out c.args.name.now c.self.inside.names.entries c.in_ok-taken.taken.1 c.in_ok-taken.ensures.some.1, ap length c.push_reserved.ensures.items, length-append c.self.inside.free.items (c.in_ok-taken.taken.1.1 ∷ []), c.push_reserved.ensures.capacity);
  };
}
