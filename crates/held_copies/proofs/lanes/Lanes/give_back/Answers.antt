-- The list is nobody's, and all stay apart.
use Rattle.std.proofs.Common.{◌∙◌, ◌∷◌, [], ℕ, List, length, nat_eq, sym, ap, subst, arith}
use Rattle.std.proofs.lemmas.List.{length-append}
use Rattle.std.specs.Map.{lookup}
use Rattle.indexmap.specs.IndexMap.{get}
use Rattle.held_copies.specs.Lanes.{Apart}
use Rattle.held_copies.proofs.Laning.{apart, differ, give_apart, same_apart}
use Rattle.held_copies.proofs.lanes.Lanes.give_back.Goals as goal

pub invariant_of-self : goal.invariant_of-self
invariant_of-self c = record {
  apart =
      subst (λ (xs : List ℕ). Apart (get nat_eq c.swap_remove.new.self) xs c.self.inside.count) (sym c.push_reserved.ensures.items)
      (give_apart (get nat_eq c.self.inside.of) (get nat_eq c.swap_remove.new.self) c.args.session c.in-Some.lane
      (λ t d. c.swap_remove.ensures.updates.2 t (apart c.args.session t (λ e. differ t c.args.session d (sym e))))
      c.self.inside.free.items c.self.inside.count c.self.invariant.apart (sym c.swap_remove.ensures.value ∙ c.in-Some.is) c.swap_remove.ensures.updates.1);
  ready = record {
    lists = omega (arith, c.self.invariant.ready.lists, ap length c.push_reserved.ensures.items, length-append c.self.inside.free.items (c.in-Some.lane ∷ []));
    sessions = omega (arith, c.self.invariant.ready.sessions, c.swap_remove.ensures.room.0);
    room = omega (arith, c.self.invariant.ready.room, ap length c.push_reserved.ensures.items, length-append c.self.inside.free.items (c.in-Some.lane ∷ []), c.in-Some.ensures.len, c.push_reserved.ensures.capacity);
  };
}

pub invariant_of-self-in_default : goal.invariant_of-self-in_default
invariant_of-self-in_default c = record {
  apart = same_apart (get nat_eq c.self.inside.of) (get nat_eq c.swap_remove.new.self) (λ t. ap (λ (es : List (ℕ × ℕ)). lookup (nat_eq t) es) c.in_default.ensures.unchanged) c.self.inside.free.items c.self.inside.count c.self.invariant.apart;
  ready = record {
    lists = c.self.invariant.ready.lists;
    sessions = omega (arith, c.self.invariant.ready.sessions, c.swap_remove.ensures.room.0);
    room = omega (arith, c.self.invariant.ready.room, ap length c.in_default.ensures.unchanged);
  };
}
