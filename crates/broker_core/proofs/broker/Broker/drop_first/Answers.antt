-- What is left is fine.
use Rattle.std.proofs.Common.{◌≡◌, ℕ, ◌<◌, List, [], ◌∷◌, length, position, refl, sym, ap, subst, ◌∙◌}
use Rattle.std.specs.List.{remove}
use Rattle.name_map.proofs.Placing.{place_out}
use Rattle.broker_core.specs.State.{Stand}
use Rattle.broker_core.specs.Ends.{own_names, DropsFirst}
use Rattle.broker_core.proofs.Ending.{is_own, own_none, own_some, same_again}
use Rattle.broker_core.specs.Sound.{ExchangeFine, QueueFine}
use Rattle.broker_core.proofs.Sounding.{Each, each_out, each_filter}
use Rattle.broker_core.proofs.broker.Broker.drop_first.Goals as goal

pub invariant_of-self : goal.invariant_of-self
invariant_of-self c = record {
  exchanges = subst (Each (λ x. ExchangeFine x.0)) (sym c.unbind_queue.ensures.entries) (each_filter (λ x. ExchangeFine x.0) _ c.self.inside.exchanges.entries c.self.invariant.exchanges);
  queues = subst (Each (λ x. QueueFine x.0)) (sym c.delete.ensures.entries) (each_out (λ x. QueueFine x.0) c.take_at-name.result.0 c.self.inside.queues.entries c.self.invariant.queues);
}

pub returns-in_default-clause-none : goal.returns-in_default-clause-none
returns-in_default-clause-none c = λ e.
    let found = sym (ap (position (is_own c.args.session)) c.entries.ensures.entries) ∙ (sym c.first_own.ensures.place ∙ c.in_default.is) in
    subst (λ (s : Stand). own_names c.args.session s.owned.entries ≡ []) c.self.view_is (own_none c.args.session c.self.inside.owned.entries found)

pub returns-clause-some : goal.returns-clause-some
returns-clause-some c = λ t.
    let entries = c.self.inside.owned.entries in
    let index = c.in-Some.index in
    let taken = c.take_at-name.result in
    let found = sym (ap (position (is_own c.args.session)) c.entries.ensures.entries) ∙ (sym c.first_own.ensures.place ∙ c.in-Some.is) in
    let bound = subst (λ (es : List (List ℕ × ℕ)). index < length es) c.entries.ensures.entries c.in-Some.ensures.bound in
    let new : Stand = record { exchanges = c.unbind_queue.new.self; queues = c.delete.new.self; sessions = c.self.inside.sessions; owned = c.take_at-name.new.self; time = c.self.inside.time } in
    subst (λ (s : Stand). DropsFirst c.args.session s new) c.self.view_is (record {
      name = taken.0;
      first =
          own_some c.args.session entries index taken found
          ∙ (ap (λ (e : List ℕ × ℕ). e.0 ∷ own_names c.args.session (remove entries index)) (sym c.take_at-name.ensures.entry)
          ∙ ap (λ (es : List (List ℕ × ℕ)). taken.0 ∷ own_names c.args.session es) (sym c.take_at-name.ensures.entries));
      acted = record {
        exchanges = (c.unbind_queue.ensures.entries, c.unbind_queue.ensures.rows);
        queues = (c.delete.ensures.entries, c.delete.ensures.lists);
        sessions = refl;
        owned = c.take_at-name.ensures.entries ∙ place_out taken.0 entries c.entries.ensures.sorted index taken bound (same_again (ap (λ (e : List ℕ × ℕ). e.0) (sym c.take_at-name.ensures.entry)));
        time = refl;
      };
    })
