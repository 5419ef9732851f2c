-- The name's list is free.
use Rattle.std.proofs.Common.{◌<◌, ◌++◌, ◌∷◌, [], ℕ, List, length, sym, ap, subst, arith}
use Rattle.std.proofs.lemmas.List.{length-append}
use Rattle.std.specs.List.{remove}
use Rattle.named_lists.specs.Lists.{NameLists, Parted, lists_of}
use Rattle.named_lists.proofs.Parting.{remove_parted, length_remove}
use Rattle.named_lists.proofs.lists.NamedLists.take_at.Goals as goal

pub invariant_of-self : goal.invariant_of-self
invariant_of-self g c =
    let there = subst (λ (v : NameLists g.row.M.Denot). c.args.index < length v.entries) (sym c.self.view_is) c.requires in
    record {
      parted =
          subst (λ (es : List (List ℕ × (g.row.M.Denot × ℕ))). Parted (lists_of es) c.push_reserved.new.self.items c.self.inside.count) (sym c.take_at-taken.ensures.entries)
          (subst (λ (xs : List ℕ). Parted (lists_of (remove c.self.inside.names.entries c.args.index)) xs c.self.inside.count) (sym c.push_reserved.ensures.items)
          (subst (λ (e : List ℕ × (g.row.M.Denot × ℕ)). Parted (lists_of (remove c.self.inside.names.entries c.args.index)) (c.self.inside.free.items ++ e.1.1 ∷ []) c.self.inside.count) (sym c.take_at-taken.ensures.entry)
          (remove_parted c.self.inside.names.entries c.args.index c.take_at-taken.result c.self.inside.free.items c.self.inside.count there c.self.invariant.parted)));
      ready = record {
        names = omega (arith, c.self.invariant.ready.names, c.take_at-taken.ensures.room, ap length c.push_reserved.ensures.items, length-append c.self.inside.free.items (c.take_at-taken.result.1.1 ∷ []));
        lists = omega (arith, c.self.invariant.ready.lists, ap length c.take_at-taken.ensures.entries, length_remove c.self.inside.names.entries c.args.index there, ap length c.push_reserved.ensures.items, length-append c.self.inside.free.items (c.take_at-taken.result.1.1 ∷ []), c.push_reserved.ensures.capacity);
      };
    }
