-- The next copy is the first of what is left.
use Rattle.std.proofs.Common.{rules, arith, length, ◌≡◌, ◌∙◌, ◌∷◌, Some, Option, ℕ, sym, ap, subst, refl}
use Rattle.std.specs.Option.{option_copied}
use Rattle.node_list.specs.Keys.{next_in, list_at}
use Rattle.queue_copies.specs.declared.entry.Holder.{Holder}
use Rattle.queue_copies.specs.Iter.{rest, Stands}
use Rattle.queue_copies.proofs.Iterating.{next_rest, next_stands}
use Rattle.queue_copies.proofs.iter.CopiesIterIterator.next.Goals as goal

pub invariant_of-self : goal.invariant_of-self
invariant_of-self c =
    let at : c.self.inside.next ≡ Some c.in_ok-key.key = search rules in
    let stands = subst (λ (o : Option ℕ). Stands c.self.inside.nodes.now c.self.inside.list o) at c.self.invariant in
    next_stands c.self.inside.nodes.now c.self.inside.list c.in_ok-key.key stands c.read_by-next.result.1 (c.read_by-next.ensures.next c.self.inside.list (stands.one c.in_ok-key.key refl))

pub returns-clause-steps : goal.returns-clause-steps
returns-clause-steps c =
    let at : c.self.inside.next ≡ Some c.in_ok-key.key = search rules in
    let stands = subst (λ (o : Option ℕ). Stands c.self.inside.nodes.now c.self.inside.list o) at c.self.invariant in
    sym c.self.view_is
    ∙ (ap (rest c.self.inside.nodes.now c.self.inside.list) at
    ∙ (next_rest c.self.inside.nodes.now c.self.inside.list c.in_ok-key.key stands c.read_by-next.result.0.now c.read_by-next.ensures.item
    ∙ (ap (λ (o : Option Holder). (c.read_by-next.result.0.now.copy, o) ∷ rest c.self.inside.nodes.now c.self.inside.list (next_in c.in_ok-key.key (list_at c.self.inside.nodes.now.lists c.self.inside.list))) (sym c.holder_of.ensures)
    ∙ ap (λ (o : Option ℕ). (c.read_by-next.result.0.now.copy, option_copied c.holder_of.result) ∷ rest c.self.inside.nodes.now c.self.inside.list o) (sym (c.read_by-next.ensures.next c.self.inside.list (stands.one c.in_ok-key.key refl))))))

pub returns-clause-goes : goal.returns-clause-goes
returns-clause-goes c = record {
  on = λ _. (tt, tt, omega (arith, ap length (returns-clause-steps c)));
  keeps = tt;
  rests = λ _. tt;
}
