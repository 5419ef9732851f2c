-- The list is the session's, and all stay apart.
use Rattle.std.proofs.Common.{◌≡◌, ◌<◌, ◌∷◌, [], ℕ, List, length, None, is_some, nat_eq, sym, ap, subst, arith}
use Rattle.std.proofs.lemmas.List.{length-append}
use Rattle.indexmap.specs.IndexMap.{get, index_map_len}
use Rattle.held_copies.specs.Lanes.{Laned, lane_in, Apart}
use Rattle.held_copies.proofs.Laning.{apart, differ, take_apart, free_below, one_more}
use Rattle.held_copies.proofs.lanes.Lanes.take.Goals as goal

pub invariant_of-self : goal.invariant_of-self
invariant_of-self c = record {
  apart =
      take_apart (get nat_eq c.self.inside.of) (get nat_eq c.insert.new.self) c.args.session c.in-Some.lane
      (λ t d. c.in-Ok.ensures.updates.2 t (apart c.args.session t (λ e. differ t c.args.session d (sym e))))
      c.pop.new.self.items c.self.inside.count (subst (λ (xs : List ℕ). Apart (get nat_eq c.self.inside.of) xs c.self.inside.count) c.in-Some.ensures.items c.self.invariant.apart)
      (subst (λ (v : Laned). lane_in v c.args.session ≡ None) (sym c.self.view_is) c.requires.new) c.in-Ok.ensures.updates.1;
  ready = record {
    lists = omega (arith, c.self.invariant.ready.lists, ap length c.in-Some.ensures.items, length-append c.pop.new.self.items (c.in-Some.lane ∷ []));
    sessions = omega (arith, c.self.invariant.ready.sessions, c.in-Ok.ensures.spare);
    room = omega (arith, c.self.invariant.ready.room, ap length c.in-Some.ensures.items, length-append c.pop.new.self.items (c.in-Some.lane ∷ []), one_more (is_some c.in-Ok.field-0) (index_map_len c.insert.new.self) (index_map_len c.self.inside.of) c.in-Ok.ensures.len, c.pop.ensures.capacity);
  };
}

pub returns-clause-below : goal.returns-clause-below
returns-clause-below c =
    subst (λ (v : Laned). c.in-Some.lane < v.count) c.self.view_is
    (free_below (get nat_eq c.self.inside.of) c.pop.new.self.items c.self.inside.count c.in-Some.lane (subst (λ (xs : List ℕ). Apart (get nat_eq c.self.inside.of) xs c.self.inside.count) c.in-Some.ensures.items c.self.invariant.apart))
