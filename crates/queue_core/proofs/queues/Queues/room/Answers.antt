-- The new lists are empty.
use Rattle.std.proofs.Common.{◌∙◌, List, ℕ, sym, subst, arith}
use Rattle.named_lists.specs.Lists.{lists_of, Parted}
use Rattle.queue_core.specs.declared.marks.QueueMarks.{QueueMarks}
use Rattle.queue_core.specs.Queues.{Stands}
use Rattle.queue_core.proofs.Standing.{grown_stands}
use Rattle.queue_core.proofs.queues.Queues.room.Goals as goal

pub invariant_of-self-2 : goal.invariant_of-self-2
invariant_of-self-2 c =
    let same = c.widen.ensures.entries ∙ c.reserve.ensures.entries in
    subst (λ (es : List (List ℕ × (QueueMarks × ℕ))). Stands es c.widen.new.self.free c.widen.new.self.count c.room.new.self.lists) (sym same)
    (grown_stands c.self.inside.names.entries c.self.inside.names.free c.widen.new.self.free c.self.inside.names.count c.widen.new.self.count c.self.inside.copies.lists c.room.new.self.lists
    c.in_ok-room.ensures.lists.0 c.self.invariant (subst (λ (es : List (List ℕ × (QueueMarks × ℕ))). Parted (lists_of es) c.widen.new.self.free c.widen.new.self.count) same c.widen.ensures.parted) c.in_ok-room.ensures.lists.2
    (omega (arith, c.widen.ensures.count, c.lists-lists.ensures.lists)))
