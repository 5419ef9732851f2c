-- One exchange after another has no binding of the queue, and goes where it had no others.
use Rattle.std.proofs.Common.{arith, ◌≡◌, ◌∙◌, ◌<◌, ◌≤◌, ◌∷◌, suc, List, [], length, take, drop, not, true, false, filter, slice_index_or, sym, ap, subst}
use Rattle.std.proofs.lemmas.List.{length-append}
use Rattle.std.specs.List.{AllByRecursion}
use Rattle.binding_table.specs.Rows.{is_of, is_of_queue}
use Rattle.exchange_core.specs.Routes.{Rowed, has_none}
use Rattle.exchange_core.specs.Exchanges.{Entry, OwnRows, is_other, stays, goes}
use Rattle.exchange_core.proofs.Owning.{filter_owns, removed_owns, others_stay, none_is}
use Rattle.exchange_core.proofs.Filtering.{filter_none}
use Rattle.exchange_core.proofs.Unbinding.{Clear, Untouched, still_clear, next_clear, all_remove, all_taken, all_clear, all_head, all_plus, drop_plus, drop_remove, filter_remove, filter_all, behind_untouched, goes_is, parts_true}
use Rattle.exchange_core.proofs.exchanges.unbind_all.Goals as goal

pub loop-index-preserved-then-goes : goal.loop-index-preserved-then-goes
loop-index-preserved-then-goes c =
    let goes_so : c.goes.result ≡ goes c.args.queue.now c.args.bindings.now.rows (slice_index_or c.entries-in-loop-index.result.now c.loop-index.index c.index-entries-index.result) = goes_is c.args.queue.now c.loop-index.bindings.rows c.args.bindings.now.rows (slice_index_or c.entries-in-loop-index.result.now c.loop-index.index c.index-entries-index.result) (subst (λ (es : List Entry). Untouched c.args.queue.now c.loop-index.bindings.rows c.args.bindings.now.rows (slice_index_or es c.loop-index.index c.index-entries-index.result)) (sym c.entries-in-loop-index.ensures.entries) (all_head (Untouched c.args.queue.now c.loop-index.bindings.rows c.args.bindings.now.rows) c.loop-index.names.entries c.loop-index.index c.index-entries-index.result (subst (λ (es : List Entry). c.loop-index.index < length es) c.entries.ensures.entries c.loop-index-test.true) c.loop-index.invariant.untouched)) c.loop-index.invariant.others c.is_empty-bound.result c.is_empty-unused.result c.goes.result (c.is_empty-bound.ensures ∙ ap has_none c.of_queue.ensures) (c.is_empty-unused.ensures ∙ ap has_none (c.of_exchange.ensures ∙ ap (filter (is_of (slice_index_or c.entries-in-loop-index.result.now c.loop-index.index c.index-entries-index.result).1.1)) c.clear_queue.ensures.rows)) c.goes.ensures in
    let unused : c.is_empty-unused.result ≡ true = parts_true (slice_index_or c.entries-in-loop-index.result.now c.loop-index.index c.index-entries-index.result).1.0.auto_delete (not c.is_empty-bound.result) c.is_empty-unused.result (sym c.goes.ensures ∙ c.if-goes.true) in
    let none : filter (is_of (slice_index_or c.entries-in-loop-index.result.now c.loop-index.index c.index-entries-index.result).1.1) c.clear_queue.new.self.rows ≡ [] = none_is (filter (is_of (slice_index_or c.entries-in-loop-index.result.now c.loop-index.index c.index-entries-index.result).1.1) c.clear_queue.new.self.rows) (ap has_none (sym c.of_exchange.ensures) ∙ (sym c.is_empty-unused.ensures ∙ unused)) in
    record {
      owns =
          subst (λ (es : List Entry). OwnRows es c.clear_queue.new.self.rows) (sym c.take_at.ensures.entries)
          (removed_owns c.loop-index.names.entries c.clear_queue.new.self.rows (subst (λ (rs : List Rowed). OwnRows c.loop-index.names.entries rs) (sym c.clear_queue.ensures.rows) (filter_owns c.loop-index.names.entries c.loop-index.bindings.rows c.loop-index.invariant.owns (λ r. not (is_of_queue (slice_index_or c.entries-in-loop-index.result.now c.loop-index.index c.index-entries-index.result).1.1 c.args.queue.now r)))) c.loop-index.index c.index-entries-index.result (subst (λ (es : List Entry). c.loop-index.index < length es) c.entries.ensures.entries c.loop-index-test.true)
          (subst (λ (es : List Entry). filter (is_of (slice_index_or es c.loop-index.index c.index-entries-index.result).1.1) c.clear_queue.new.self.rows ≡ []) c.entries-in-loop-index.ensures.entries none));
      others = ap (filter (is_other c.args.queue.now)) c.clear_queue.ensures.rows ∙ (others_stay (slice_index_or c.entries-in-loop-index.result.now c.loop-index.index c.index-entries-index.result).1.1 c.args.queue.now c.loop-index.bindings.rows ∙ c.loop-index.invariant.others);
      clear = subst (λ (es : List Entry). AllByRecursion (Clear c.args.queue.now c.clear_queue.new.self.rows) (take c.loop-index.index es)) (sym c.take_at.ensures.entries) (all_remove (Clear c.args.queue.now c.clear_queue.new.self.rows) c.loop-index.names.entries c.loop-index.index (subst (λ (rs : List Rowed). AllByRecursion (Clear c.args.queue.now rs) (take c.loop-index.index c.loop-index.names.entries)) (sym c.clear_queue.ensures.rows) (still_clear (slice_index_or c.entries-in-loop-index.result.now c.loop-index.index c.index-entries-index.result).1.1 c.args.queue.now c.loop-index.bindings.rows (take c.loop-index.index c.loop-index.names.entries) c.loop-index.invariant.clear)));
      untouched =
          subst (λ (es : List Entry). AllByRecursion (Untouched c.args.queue.now c.clear_queue.new.self.rows c.args.bindings.now.rows) (drop c.loop-index.index es)) (sym c.take_at.ensures.entries)
          (subst (λ (es : List Entry). AllByRecursion (Untouched c.args.queue.now c.clear_queue.new.self.rows c.args.bindings.now.rows) es) (sym (drop_remove c.loop-index.names.entries c.loop-index.index)) (subst (λ (rs : List Rowed). AllByRecursion (Untouched c.args.queue.now rs c.args.bindings.now.rows) (drop (suc c.loop-index.index) c.loop-index.names.entries)) (sym c.clear_queue.ensures.rows) (subst (λ (xs : List Entry). AllByRecursion (Untouched c.args.queue.now (filter (λ r. not (is_of_queue (slice_index_or xs c.loop-index.index c.index-entries-index.result).1.1 c.args.queue.now r)) c.loop-index.bindings.rows) c.args.bindings.now.rows) (drop (suc c.loop-index.index) c.loop-index.names.entries)) (sym c.entries-in-loop-index.ensures.entries) (behind_untouched c.args.queue.now c.loop-index.bindings.rows c.args.bindings.now.rows c.loop-index.names.entries c.loop-index.names.free c.loop-index.names.count c.loop-index.index c.index-entries-index.result c.entries.ensures.parted (subst (λ (es : List Entry). c.loop-index.index < length es) c.entries.ensures.entries c.loop-index-test.true) c.loop-index.invariant.untouched))));
      staying = subst (λ (es : List Entry). AllByRecursion (λ e. stays c.args.queue.now c.args.bindings.now.rows e ≡ true) (take c.loop-index.index es)) (sym c.take_at.ensures.entries) (all_remove (λ e. stays c.args.queue.now c.args.bindings.now.rows e ≡ true) c.loop-index.names.entries c.loop-index.index c.loop-index.invariant.staying);
      entries =
          ap (filter (stays c.args.queue.now c.args.bindings.now.rows)) c.take_at.ensures.entries
          ∙ (filter_remove (stays c.args.queue.now c.args.bindings.now.rows) c.loop-index.names.entries c.loop-index.index c.index-entries-index.result (subst (λ (es : List Entry). c.loop-index.index < length es) c.entries.ensures.entries c.loop-index-test.true) (subst (λ (es : List Entry). stays c.args.queue.now c.args.bindings.now.rows (slice_index_or es c.loop-index.index c.index-entries-index.result) ≡ false) c.entries-in-loop-index.ensures.entries (ap not (sym goes_so ∙ c.if-goes.true)))
          ∙ c.loop-index.invariant.entries);
      free = omega (arith, c.loop-index.invariant.free, ap length c.take_at.ensures.free, length-append c.loop-index.names.free (c.take_at.result.1.1 ∷ []));
      room = omega (arith, c.loop-index.invariant.room, c.clear_queue.ensures.room);
    }

pub loop-index-preserved : goal.loop-index-preserved
loop-index-preserved c =
    let goes_so : c.goes.result ≡ goes c.args.queue.now c.args.bindings.now.rows (slice_index_or c.entries-in-loop-index.result.now c.loop-index.index c.index-entries-index.result) = goes_is c.args.queue.now c.loop-index.bindings.rows c.args.bindings.now.rows (slice_index_or c.entries-in-loop-index.result.now c.loop-index.index c.index-entries-index.result) (subst (λ (es : List Entry). Untouched c.args.queue.now c.loop-index.bindings.rows c.args.bindings.now.rows (slice_index_or es c.loop-index.index c.index-entries-index.result)) (sym c.entries-in-loop-index.ensures.entries) (all_head (Untouched c.args.queue.now c.loop-index.bindings.rows c.args.bindings.now.rows) c.loop-index.names.entries c.loop-index.index c.index-entries-index.result (subst (λ (es : List Entry). c.loop-index.index < length es) c.entries.ensures.entries c.loop-index-test.true) c.loop-index.invariant.untouched)) c.loop-index.invariant.others c.is_empty-bound.result c.is_empty-unused.result c.goes.result (c.is_empty-bound.ensures ∙ ap has_none c.of_queue.ensures) (c.is_empty-unused.ensures ∙ ap has_none (c.of_exchange.ensures ∙ ap (filter (is_of (slice_index_or c.entries-in-loop-index.result.now c.loop-index.index c.index-entries-index.result).1.1)) c.clear_queue.ensures.rows)) c.goes.ensures in
    record {
      owns = subst (λ (rs : List Rowed). OwnRows c.loop-index.names.entries rs) (sym c.clear_queue.ensures.rows) (filter_owns c.loop-index.names.entries c.loop-index.bindings.rows c.loop-index.invariant.owns (λ r. not (is_of_queue (slice_index_or c.entries-in-loop-index.result.now c.loop-index.index c.index-entries-index.result).1.1 c.args.queue.now r)));
      others = ap (filter (is_other c.args.queue.now)) c.clear_queue.ensures.rows ∙ (others_stay (slice_index_or c.entries-in-loop-index.result.now c.loop-index.index c.index-entries-index.result).1.1 c.args.queue.now c.loop-index.bindings.rows ∙ c.loop-index.invariant.others);
      clear = next_clear c.args.queue.now c.clear_queue.new.self.rows c.loop-index.names.entries c.loop-index.index c.index-entries-index.result (subst (λ (es : List Entry). c.loop-index.index < length es) c.entries.ensures.entries c.loop-index-test.true) (subst (λ (rs : List Rowed). AllByRecursion (Clear c.args.queue.now rs) (take c.loop-index.index c.loop-index.names.entries)) (sym c.clear_queue.ensures.rows) (still_clear (slice_index_or c.entries-in-loop-index.result.now c.loop-index.index c.index-entries-index.result).1.1 c.args.queue.now c.loop-index.bindings.rows (take c.loop-index.index c.loop-index.names.entries) c.loop-index.invariant.clear))
          (subst (λ (es : List Entry). Clear c.args.queue.now c.clear_queue.new.self.rows (slice_index_or es c.loop-index.index c.index-entries-index.result)) c.entries-in-loop-index.ensures.entries (ap (filter (is_of_queue (slice_index_or c.entries-in-loop-index.result.now c.loop-index.index c.index-entries-index.result).1.1 c.args.queue.now)) c.clear_queue.ensures.rows ∙ filter_none (is_of_queue (slice_index_or c.entries-in-loop-index.result.now c.loop-index.index c.index-entries-index.result).1.1 c.args.queue.now) c.loop-index.bindings.rows));
      untouched = drop_plus (Untouched c.args.queue.now c.clear_queue.new.self.rows c.args.bindings.now.rows) c.loop-index.names.entries c.loop-index.index (subst (λ (rs : List Rowed). AllByRecursion (Untouched c.args.queue.now rs c.args.bindings.now.rows) (drop (suc c.loop-index.index) c.loop-index.names.entries)) (sym c.clear_queue.ensures.rows) (subst (λ (xs : List Entry). AllByRecursion (Untouched c.args.queue.now (filter (λ r. not (is_of_queue (slice_index_or xs c.loop-index.index c.index-entries-index.result).1.1 c.args.queue.now r)) c.loop-index.bindings.rows) c.args.bindings.now.rows) (drop (suc c.loop-index.index) c.loop-index.names.entries)) (sym c.entries-in-loop-index.ensures.entries) (behind_untouched c.args.queue.now c.loop-index.bindings.rows c.args.bindings.now.rows c.loop-index.names.entries c.loop-index.names.free c.loop-index.names.count c.loop-index.index c.index-entries-index.result c.entries.ensures.parted (subst (λ (es : List Entry). c.loop-index.index < length es) c.entries.ensures.entries c.loop-index-test.true) c.loop-index.invariant.untouched)));
      staying = all_plus (λ e. stays c.args.queue.now c.args.bindings.now.rows e ≡ true) c.loop-index.names.entries c.loop-index.index c.index-entries-index.result (subst (λ (es : List Entry). c.loop-index.index < length es) c.entries.ensures.entries c.loop-index-test.true) c.loop-index.invariant.staying (subst (λ (es : List Entry). stays c.args.queue.now c.args.bindings.now.rows (slice_index_or es c.loop-index.index c.index-entries-index.result) ≡ true) c.entries-in-loop-index.ensures.entries (ap not (sym goes_so ∙ c.if-goes.false)));
      entries = c.loop-index.invariant.entries;
      free = c.loop-index.invariant.free;
      room = omega (arith, c.loop-index.invariant.room, c.clear_queue.ensures.room);
    }

pub returns-clause-rows : goal.returns-clause-rows
returns-clause-rows c =
    all_clear c.args.queue.now c.loop-index.bindings.rows c.loop-index.names.entries c.loop-index.invariant.owns
    (all_taken (Clear c.args.queue.now c.loop-index.bindings.rows) c.loop-index.names.entries c.loop-index.index (subst (λ (es : List Entry). length es ≤ c.loop-index.index) c.entries.ensures.entries c.loop-index-test.false) c.loop-index.invariant.clear)
    ∙ c.loop-index.invariant.others

pub returns-clause-entries : goal.returns-clause-entries
returns-clause-entries c =
    sym (filter_all (stays c.args.queue.now c.args.bindings.now.rows) c.loop-index.names.entries (all_taken (λ e. stays c.args.queue.now c.args.bindings.now.rows e ≡ true) c.loop-index.names.entries c.loop-index.index (subst (λ (es : List Entry). length es ≤ c.loop-index.index) c.entries.ensures.entries c.loop-index-test.false) c.loop-index.invariant.staying))
    ∙ c.loop-index.invariant.entries
