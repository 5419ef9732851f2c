-- The queue has a list that was free.
use Rattle.std.proofs.Common.{◌∙◌, List, ℕ, sym, ap, subst}
use Rattle.name_map.specs.Named.{put}
use Rattle.queue_core.specs.declared.marks.QueueMarks.{QueueMarks}
use Rattle.queue_core.specs.Queues.{Queued, Stands}
use Rattle.queue_core.proofs.Standing.{put_stands, put_empty}
use Rattle.queue_core.proofs.queues.Queues.place.Goals as goal

pub invariant_of-self : goal.invariant_of-self
invariant_of-self c =
    subst (λ (es : List (List ℕ × (QueueMarks × ℕ))). Stands es c.put.new.self.free c.put.new.self.count c.self.inside.copies.lists) (sym c.put.ensures.entries)
    (subst (λ (n : ℕ). Stands (put c.args.name (c.args.marks, c.put.result) c.self.inside.names.entries) c.put.new.self.free n c.self.inside.copies.lists) (sym c.put.ensures.count)
    (put_stands c.self.inside.names.entries c.put.new.self.free c.self.inside.names.count c.self.inside.copies.lists c.args.name (c.args.marks, c.put.result)
    (subst (λ (ls : List ℕ). Stands c.self.inside.names.entries ls c.self.inside.names.count c.self.inside.copies.lists) c.put.ensures.free c.self.invariant)))

pub returns-clause-entries : goal.returns-clause-entries
returns-clause-entries c = (
  c.put.result,
  c.put.ensures.entries ∙ ap (λ (v : Queued). put c.args.name (c.args.marks, c.put.result) v.entries) c.self.view_is,
  put_empty c.self.inside.names.entries c.put.new.self.free c.self.inside.names.count c.self.inside.copies.lists c.put.result
      (subst (λ (ls : List ℕ). Stands c.self.inside.names.entries ls c.self.inside.names.count c.self.inside.copies.lists) c.put.ensures.free c.self.invariant),
)
