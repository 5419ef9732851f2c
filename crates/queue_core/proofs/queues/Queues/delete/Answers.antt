-- The queue's list is empty and free.
use Rattle.std.proofs.Common.{◌≡◌, ◌∙◌, ◌++◌, ◌∷◌, [], List, ℕ, sym, ap, subst, slice_set}
use Rattle.name_map.specs.Named.{out}
use Rattle.name_map.proofs.Placing.{out_none}
use Rattle.queue_copies.specs.Copied.{Copied}
use Rattle.queue_core.specs.declared.marks.QueueMarks.{QueueMarks}
use Rattle.queue_core.specs.Queues.{Stands}
use Rattle.queue_core.proofs.Standing.{found_within, out_stands}
use Rattle.queue_core.proofs.queues.Queues.delete.Goals as goal

pub clear_by-requires-clause-list : goal.clear_by-requires-clause-list
clear_by-requires-clause-list c = found_within c.self.inside.names.entries c.self.inside.names.free c.self.inside.names.count c.self.inside.copies.lists c.self.invariant c.args.name.now c.in-Some.taken.1 c.in-Some.ensures.some.1

pub invariant_of-self : goal.invariant_of-self
invariant_of-self c =
    subst (λ (es : List (List ℕ × (QueueMarks × ℕ))). Stands es c.take.new.self.free c.take.new.self.count c.clear_by.new.copies.lists) (sym c.take.ensures.entries)
    (subst (λ (ls : List ℕ). Stands (out c.args.name.now c.self.inside.names.entries) ls c.take.new.self.count c.clear_by.new.copies.lists) (sym c.in-Some.ensures.some.2)
    (subst (λ (n : ℕ). Stands (out c.args.name.now c.self.inside.names.entries) (c.self.inside.names.free ++ c.in-Some.taken.1.1 ∷ []) n c.clear_by.new.copies.lists) (sym c.take.ensures.count)
    (subst (λ (ls : List (List Copied)). Stands (out c.args.name.now c.self.inside.names.entries) (c.self.inside.names.free ++ c.in-Some.taken.1.1 ∷ []) c.self.inside.names.count ls) (sym c.clear_by.ensures.lists)
    (out_stands c.self.inside.names.entries c.self.inside.names.free c.self.inside.names.count c.self.inside.copies.lists c.self.invariant c.args.name.now c.in-Some.taken.1 c.in-Some.ensures.some.1))))

pub invariant_of-self-in_default : goal.invariant_of-self-in_default
invariant_of-self-in_default c =
    subst (λ (es : List (List ℕ × (QueueMarks × ℕ))). Stands es c.take.new.self.free c.take.new.self.count c.self.inside.copies.lists) (sym (c.take.ensures.entries ∙ out_none c.args.name.now c.self.inside.names.entries c.in_default.ensures.none.0))
    (subst (λ (ls : List ℕ). Stands c.self.inside.names.entries ls c.take.new.self.count c.self.inside.copies.lists) (sym c.in_default.ensures.none.1)
    (subst (λ (n : ℕ). Stands c.self.inside.names.entries c.self.inside.names.free n c.self.inside.copies.lists) (sym c.take.ensures.count) c.self.invariant))
