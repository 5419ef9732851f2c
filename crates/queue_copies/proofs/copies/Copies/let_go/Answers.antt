-- The copy is available, and everything else stays.
use Rattle.std.proofs.Common.{◌≡◌, ◌∙◌, Option, is_some, ◌||◌, refl, sym, ap, subst, slice_set}
use Rattle.std.specs.Option.{option_copied}
use Rattle.queue_copies.specs.declared.entry.Held.{Held}
use Rattle.queue_copies.specs.declared.entry.Entry.{Entry}
use Rattle.queue_copies.specs.Shelves.{shelf_at, shelf_free}
use Rattle.queue_copies.specs.Copied.{Stock, released, IsThere, find_in, holder_of, hold_of}
use Rattle.queue_copies.specs.Sound.{seen, seen_hold}
use Rattle.queue_copies.proofs.Standing.{is_live, in_shelves, is_away, is_counted, free_small, unreached, holder_is}
use Rattle.queue_copies.proofs.Changing.{free_whole, free_view}
use Rattle.queue_copies.proofs.copies.Copies.let_go.Given.{Over}
use Rattle.queue_copies.proofs.copies.Copies.let_go.Goals as goal

pub get_mut-entry-requires : goal.get_mut-entry-requires
get_mut-entry-requires g c =
    is_live c.self.inside.nodes c.self.inside.keys c.self.inside.shelves.items c.self.inside.slots.items c.self.invariant.whole c.args.number c.in-Some.key.now (sym c.get.ensures.value ∙ ap option_copied c.in-Some.is)

pub free_at-replaced-requires-clause-list : goal.free_at-replaced-requires-clause-list
free_at-replaced-requires-clause-list g c =
    in_shelves c.self.inside.nodes c.self.inside.keys c.self.inside.shelves.items c.self.inside.slots.items c.self.invariant.whole c.args.number c.in-Some.key.now c.get_mut-entry.result.now (sym c.get.ensures.value ∙ ap option_copied c.in-Some.is) c.get_mut-entry.ensures.value

pub free_at-replaced-requires-clause-held : goal.free_at-replaced-requires-clause-held
free_at-replaced-requires-clause-held g c t =
    is_away c.self.inside.nodes c.self.inside.keys c.self.inside.shelves.items c.self.inside.slots.items c.self.invariant.whole c.args.number c.in-Some.key.now c.get_mut-entry.result.now (sym c.get.ensures.value ∙ ap option_copied c.in-Some.is) c.get_mut-entry.ensures.value
    (ap (λ (o : Option Held). is_some o) (sym c.replace-before.ensures.value) ∙ t)

pub free_at-replaced-requires-clause-some : goal.free_at-replaced-requires-clause-some
free_at-replaced-requires-clause-some g c t =
    is_counted c.self.inside.nodes c.self.inside.keys c.self.inside.shelves.items c.self.inside.slots.items c.self.invariant.whole c.args.number c.in-Some.key.now c.get_mut-entry.result.now (sym c.get.ensures.value ∙ ap option_copied c.in-Some.is) c.get_mut-entry.ensures.value
    (ap (λ (o : Option Held). is_some o) (sym c.replace-before.ensures.value) ∙ t)

pub free_at-replaced-requires-clause-few : goal.free_at-replaced-requires-clause-few
free_at-replaced-requires-clause-few g c = free_small c.self.inside.nodes c.self.inside.keys c.self.inside.shelves.items c.self.inside.slots.items c.self.invariant.whole c.get_mut-entry.result.now.list

pub unreachable-requires : goal.unreachable-requires
unreachable-requires g c =
    unreached c.self.inside.nodes c.self.inside.keys c.self.inside.shelves.items c.self.inside.slots.items c.self.invariant.whole c.args.number (sym c.get.ensures.value ∙ ap option_copied c.in-None.is)
    (subst (λ (v : Stock). IsThere c.args.number v.lists) (sym c.self.view_is) c.requires)

abbrev made : (g : Over) → goal.After-let_go g → Entry
made g c = record { list = c.get_mut-entry.result.now.list; copy = record c.get_mut-entry.result.now.copy { redelivered = c.get_mut-entry.result.now.copy.redelivered || c.args.redelivered }; held = c.replace-before.new.dest }

released_is : (g : Over) (c : goal.After-let_go g) → seen (made g c) ≡ released c.args.redelivered (seen c.get_mut-entry.result.now)
released_is g c = ap (λ (o : Option Held). record { copy = (made g c).copy; hold = seen_hold o }) c.replace-before.ensures.after

pub invariant_of-self : goal.invariant_of-self
invariant_of-self g c =
    record {
      whole =
          free_whole c.self.inside.nodes c.self.inside.keys c.self.inside.shelves.items c.self.inside.slots.items c.self.invariant.whole c.args.number c.in-Some.key.now c.get_mut-entry.result.now (sym c.get.ensures.value ∙ ap option_copied c.in-Some.is) c.get_mut-entry.ensures.value
          c.args.redelivered c.let_go.new.self (made g c) c.let_go.ensures.items c.let_go.ensures.lists c.let_go.ensures.spare refl refl (released_is g c) c.replace-before.ensures.after
          c.let_go.ensures.held c.free_at-replaced.new.shelves.items
          (c.free_at-replaced.ensures.shelves
          ∙ ap (λ (o : Option Held). slice_set c.self.inside.shelves.items c.get_mut-entry.result.now.list (shelf_free (is_some o) c.args.number (shelf_at c.self.inside.shelves.items c.get_mut-entry.result.now.list))) c.replace-before.ensures.value);
      greatest_of = c.self.invariant.greatest_of;
    }

pub returns-clause-lists : goal.returns-clause-lists
returns-clause-lists g c =
    rw (← c.self.view_is)
    (free_view c.self.inside.nodes c.self.inside.keys c.self.inside.shelves.items c.self.inside.slots.items c.self.invariant.whole c.args.number c.in-Some.key.now c.get_mut-entry.result.now (sym c.get.ensures.value ∙ ap option_copied c.in-Some.is) c.get_mut-entry.ensures.value
    c.args.redelivered c.let_go.new.self (made g c) c.let_go.ensures.items c.let_go.ensures.lists c.let_go.ensures.spare refl refl (released_is g c) c.replace-before.ensures.after)

pub returns-clause-before : goal.returns-clause-before
returns-clause-before g c =
    c.free_at-replaced.ensures.holder
    ∙ (ap (λ (o : Option Held). holder_of (seen_hold o)) c.replace-before.ensures.value
    ∙ (holder_is c.self.inside.nodes c.self.inside.keys c.self.inside.shelves.items c.self.inside.slots.items c.self.invariant.whole c.args.number c.in-Some.key.now c.get_mut-entry.result.now (sym c.get.ensures.value ∙ ap option_copied c.in-Some.is) c.get_mut-entry.ensures.value
    ∙ ap (λ (v : Stock). holder_of (hold_of (find_in c.args.number v.lists))) c.self.view_is))
