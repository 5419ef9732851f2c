-- The copy is held, and everything else stays.
use Rattle.std.proofs.Common.{◌∙◌, ◌<◌, ℕ, List, length, Option, is_some, sym, ap, subst, slice_set, ◌++◌, ◌∷◌, [], arith}
use Rattle.std.proofs.lemmas.List.{length-map}
use Rattle.std.specs.Option.{option_copied}
use Rattle.node_list.specs.Keys.{list_at}
use Rattle.node_list.specs.Lists.{item_at}
use Rattle.queue_copies.specs.declared.entry.Held.{Held}
use Rattle.queue_copies.specs.Shelves.{shelf_at, shelf_held}
use Rattle.queue_copies.specs.Copied.{Stock, IsThere, find_in, holder_of, hold_of}
use Rattle.queue_copies.specs.Sound.{gathered, seen_hold}
use Rattle.queue_copies.proofs.Standing.{is_live, in_shelves, is_free, shelf_rising, held_small, unreached, holder_is}
use Rattle.queue_copies.proofs.Changing.{let_gone, hold_whole, hold_view}
use Rattle.queue_copies.proofs.copies.Copies.hold.Given.{Over}
use Rattle.queue_copies.proofs.copies.Copies.hold.Goals as goal

pub get_mut-entry-requires : goal.get_mut-entry-requires
get_mut-entry-requires g c =
    is_live c.self.inside.nodes c.self.inside.keys c.self.inside.shelves.items c.self.inside.slots.items c.self.invariant.whole c.args.number c.in-Some.key.now (sym c.get.ensures.value ∙ ap option_copied c.in-Some.is)

pub hold_at-slot-requires-clause-list : goal.hold_at-slot-requires-clause-list
hold_at-slot-requires-clause-list g c =
    in_shelves c.self.inside.nodes c.self.inside.keys c.self.inside.shelves.items c.self.inside.slots.items c.self.invariant.whole c.args.number c.in-Some.key.now c.get_mut-entry.result.now (sym c.get.ensures.value ∙ ap option_copied c.in-Some.is) c.get_mut-entry.ensures.value

pub hold_at-slot-requires-clause-free : goal.hold_at-slot-requires-clause-free
hold_at-slot-requires-clause-free g c t =
    is_free c.self.inside.nodes c.self.inside.keys c.self.inside.shelves.items c.self.inside.slots.items c.self.invariant.whole c.args.number c.in-Some.key.now c.get_mut-entry.result.now (sym c.get.ensures.value ∙ ap option_copied c.in-Some.is) c.get_mut-entry.ensures.value
    (ap (λ (o : Option Held). is_some o) (sym c.replace-before.ensures.value) ∙ t)

pub hold_at-slot-requires-clause-rising : goal.hold_at-slot-requires-clause-rising
hold_at-slot-requires-clause-rising g c = shelf_rising c.self.inside.nodes c.self.inside.keys c.self.inside.shelves.items c.self.inside.slots.items c.self.invariant.whole c.get_mut-entry.result.now.list

pub hold_at-slot-requires-clause-few : goal.hold_at-slot-requires-clause-few
hold_at-slot-requires-clause-few g c = held_small c.self.inside.nodes c.self.inside.keys c.self.inside.shelves.items c.self.inside.slots.items c.self.invariant.whole c.get_mut-entry.result.now.list

pub hold-requires-clause-free : goal.hold-requires-clause-free
hold-requires-clause-free g c = let_gone c.in-Some.key.now c.let_go.new.self.held c.self.inside.nodes.held c.let_go.ensures.held

pub unreachable-requires : goal.unreachable-requires
unreachable-requires g c =
    unreached c.self.inside.nodes c.self.inside.keys c.self.inside.shelves.items c.self.inside.slots.items c.self.invariant.whole c.args.number (sym c.get.ensures.value ∙ ap option_copied c.in-None.is)
    (subst (λ (v : Stock). IsThere c.args.number v.lists) (sym c.self.view_is) c.requires.there)

within : (g : Over) (c : goal.After-hold g) → c.args.lane < length c.self.inside.nodes.held
within g c =
    let lt = subst (λ (v : Stock). c.args.lane < length v.lists) (sym c.self.view_is) c.requires.lane in
    omega (arith, lt, length-map c.self.inside.nodes.lists (gathered (item_at c.self.inside.nodes)), c.self.invariant.whole.sound.as_many)

pub invariant_of-self : goal.invariant_of-self
invariant_of-self g c =
    record {
      whole =
          hold_whole c.self.inside.nodes c.self.inside.keys c.self.inside.shelves.items c.self.inside.slots.items c.self.invariant.whole c.args.number c.in-Some.key.now c.get_mut-entry.result.now (sym c.get.ensures.value ∙ ap option_copied c.in-Some.is) c.get_mut-entry.ensures.value
          c.args.holder c.args.lane c.hold_at-slot.result.0 c.hold.new.self (c.hold.ensures.items ∙ c.let_go.ensures.items) (c.hold.ensures.lists ∙ c.let_go.ensures.lists) (c.hold.ensures.spare ∙ c.let_go.ensures.spare) (within g c)
          (c.hold.ensures.held ∙ ap (λ (ls : List (List ℕ)). slice_set ls c.args.lane (list_at ls c.args.lane ++ c.in-Some.key.now ∷ [])) c.let_go.ensures.held) c.hold_at-slot.new.shelves.items
          (c.hold_at-slot.ensures.shelves
          ∙ ap (λ (o : Option Held). slice_set c.self.inside.shelves.items c.get_mut-entry.result.now.list (shelf_held (is_some o) c.args.number (shelf_at c.self.inside.shelves.items c.get_mut-entry.result.now.list))) c.replace-before.ensures.value);
      greatest_of = c.self.invariant.greatest_of;
    }

pub returns-clause-lists : goal.returns-clause-lists
returns-clause-lists g c =
    rw (← c.self.view_is)
    (hold_view c.self.inside.nodes c.self.inside.keys c.self.inside.shelves.items c.self.inside.slots.items c.self.invariant.whole c.args.number c.in-Some.key.now c.get_mut-entry.result.now (sym c.get.ensures.value ∙ ap option_copied c.in-Some.is) c.get_mut-entry.ensures.value
    c.args.holder c.args.lane c.hold_at-slot.result.0 c.hold.new.self (c.hold.ensures.items ∙ c.let_go.ensures.items) (c.hold.ensures.lists ∙ c.let_go.ensures.lists) (c.hold.ensures.spare ∙ c.let_go.ensures.spare) (within g c))

pub returns-clause-before : goal.returns-clause-before
returns-clause-before g c =
    c.hold_at-slot.ensures.holder
    ∙ (ap (λ (o : Option Held). holder_of (seen_hold o)) c.replace-before.ensures.value
    ∙ (holder_is c.self.inside.nodes c.self.inside.keys c.self.inside.shelves.items c.self.inside.slots.items c.self.invariant.whole c.args.number c.in-Some.key.now c.get_mut-entry.result.now (sym c.get.ensures.value ∙ ap option_copied c.in-Some.is) c.get_mut-entry.ensures.value
    ∙ ap (λ (v : Stock). holder_of (hold_of (find_in c.args.number v.lists))) c.self.view_is))
