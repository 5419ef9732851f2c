-- The queue has its list again, and other marks.
use Rattle.std.proofs.Common.{◌∙◌, List, ℕ, sym, ap, subst}
use Rattle.name_map.specs.Named.{put, out}
use Rattle.name_map.proofs.Placing.{out_none}
use Rattle.queue_core.specs.declared.marks.QueueMarks.{QueueMarks}
use Rattle.queue_core.specs.Queues.{Queued, Stands}
use Rattle.queue_core.proofs.Standing.{again_stands}
use Rattle.queue_core.proofs.queues.Queues.plain.Goals as goal

pub invariant_of-self : goal.invariant_of-self
invariant_of-self c =
    subst (λ (es : List (List ℕ × (QueueMarks × ℕ))). Stands es c.put.new.self.free c.put.new.self.count c.self.inside.copies.lists) (sym (c.put.ensures.entries ∙ ap (put c.in-Some.taken.0 (c.plain.result, c.put.result)) c.take.ensures.entries))
    (subst (λ (n : ℕ). Stands (put c.in-Some.taken.0 (c.plain.result, c.put.result) (out c.args.name.now c.self.inside.names.entries)) c.put.new.self.free n c.self.inside.copies.lists) (sym (c.put.ensures.count ∙ c.take.ensures.count))
    (again_stands c.self.inside.names.entries c.self.inside.names.free c.self.inside.names.count c.self.inside.copies.lists c.self.invariant c.args.name.now c.in-Some.taken.1 c.in-Some.ensures.some.1
    c.in-Some.taken.0 c.plain.result c.put.result c.put.new.self.free (sym c.in-Some.ensures.some.2 ∙ c.put.ensures.free)))

pub invariant_of-self-in_default : goal.invariant_of-self-in_default
invariant_of-self-in_default c =
    subst (λ (es : List (List ℕ × (QueueMarks × ℕ))). Stands es c.take.new.self.free c.take.new.self.count c.self.inside.copies.lists) (sym (c.take.ensures.entries ∙ out_none c.args.name.now c.self.inside.names.entries c.in_default.ensures.none.0))
    (subst (λ (ls : List ℕ). Stands c.self.inside.names.entries ls c.take.new.self.count c.self.inside.copies.lists) (sym c.in_default.ensures.none.1)
    (subst (λ (n : ℕ). Stands c.self.inside.names.entries c.self.inside.names.free n c.self.inside.copies.lists) (sym c.take.ensures.count) c.self.invariant))

pub returns-in_default-clause-none : goal.returns-in_default-clause-none
returns-in_default-clause-none c none =
    c.take.ensures.entries ∙ (out_none c.args.name.now c.self.inside.names.entries c.in_default.ensures.none.0 ∙ ap (λ (v : Queued). v.entries) c.self.view_is)
