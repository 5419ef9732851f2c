-- The loops over items.
use Rattle.std.proofs.Common.{◌+◌, ◌-◌, ◌++◌, ◌∷◌, [], sym, ap, subst, ◌∙◌, arith}
use Rattle.std.proofs.lemmas.Result.{err_from_is_err_and}
use Rattle.octet_reading.specs.Reading.{Fails, many_at}
use Rattle.octet_reading.proofs.Many.{more_fails, one_fails, goes_on, is_done}
use Rattle.amqp_values.specs.Values.{item_at, pair_at, value_at, SeesLong}
use Rattle.amqp_values.proofs.Noting.{sees_more}
use Rattle.amqp_values.proofs.read.+reading.Goals as goal

pub items_of-returns-in_err-more_of-clause-gives : goal.items_of-returns-in_err-more_of-clause-gives
items_of-returns-in_err-more_of-clause-gives t c =
    let p = err_from_is_err_and c.from_residual.result c.from_residual.ensures.1 in
    rw (p.1, p.2) (more_fails (λ front. item_at (value_at c.args.levels)) c.in_err-more_of.field-0.0 c.loop.items c.args.count c.loop.counter c.args.from c.loop.rest.now
    (many_at (λ front. item_at (value_at c.args.levels)) [] c.args.count c.args.from c.args.octets.now) c.loop-test.true c.in_err-more_of.ensures.gives c.loop.invariant.0)

pub items_of-returns-in_err-value-clause-gives : goal.items_of-returns-in_err-value-clause-gives
items_of-returns-in_err-value-clause-gives t c =
    let p = err_from_is_err_and c.from_residual-in_err-value.result c.from_residual-in_err-value.ensures.1 in
    rw (p.1, p.2) (one_fails (λ front. item_at (value_at c.args.levels)) c.in_err-value.field-0.0 c.loop.items c.args.count c.loop.counter c.args.from c.loop.rest.now
    (many_at (λ front. item_at (value_at c.args.levels)) [] c.args.count c.args.from c.args.octets.now) c.loop-test.true c.in_ok-more_of.ensures.gives c.in_err-value.ensures.gives c.loop.invariant.0)

pub items_of-loop-preserved : goal.items_of-loop-preserved
items_of-loop-preserved t c =
    let more = goes_on (λ front. item_at (value_at c.args.levels)) c.loop.items c.args.count c.loop.counter c.args.from c.loop.rest.now c.in_ok-value.value c.in_ok-value.after.now
    (many_at (λ front. item_at (value_at c.args.levels)) [] c.args.count c.args.from c.args.octets.now) c.loop-test.true c.in_ok-more_of.ensures.gives c.in_ok-value.ensures.gives c.loop.invariant.0 in (
      ap (λ xs. many_at (λ front. item_at (value_at c.args.levels)) xs (c.args.count - (c.loop.counter + 1)) c.args.from c.in_ok-value.after.now) c.in_ok-push.ensures.ok ∙ more,
      omega (arith, c.in_ok-value.ensures.within, c.loop.invariant.1),
    )

pub items_of-returns-clause-gives : goal.items_of-returns-clause-gives
items_of-returns-clause-gives t c =
    is_done (λ front. item_at (value_at c.args.levels)) c.loop.items c.args.count c.loop.counter c.args.from c.loop.rest.now (many_at (λ front. item_at (value_at c.args.levels)) [] c.args.count c.args.from c.args.octets.now) c.loop-test.false c.loop.invariant.0

pub values_of-returns-in_err-more_of-clause-gives : goal.values_of-returns-in_err-more_of-clause-gives
values_of-returns-in_err-more_of-clause-gives t c =
    let p = err_from_is_err_and c.from_residual.result c.from_residual.ensures.1 in
    rw (p.1, p.2) (more_fails (λ front. value_at c.args.levels c.args.code) c.in_err-more_of.field-0.0 c.loop.items c.args.count c.loop.counter c.args.from c.loop.rest.now
    (many_at (λ front. value_at c.args.levels c.args.code) [] c.args.count c.args.from c.args.octets.now) c.loop-test.true c.in_err-more_of.ensures.gives c.loop.invariant.0)

pub values_of-returns-in_err-value-clause-gives : goal.values_of-returns-in_err-value-clause-gives
values_of-returns-in_err-value-clause-gives t c =
    let p = err_from_is_err_and c.from_residual-in_err-value.result c.from_residual-in_err-value.ensures.1 in
    rw (p.1, p.2) (one_fails (λ front. value_at c.args.levels c.args.code) c.in_err-value.field-0.0 c.loop.items c.args.count c.loop.counter c.args.from c.loop.rest.now
    (many_at (λ front. value_at c.args.levels c.args.code) [] c.args.count c.args.from c.args.octets.now) c.loop-test.true c.in_ok-more_of.ensures.gives c.in_err-value.ensures.gives c.loop.invariant.0)

pub values_of-loop-preserved : goal.values_of-loop-preserved
values_of-loop-preserved t c =
    let more = goes_on (λ front. value_at c.args.levels c.args.code) c.loop.items c.args.count c.loop.counter c.args.from c.loop.rest.now c.in_ok-value.value c.in_ok-value.after.now
    (many_at (λ front. value_at c.args.levels c.args.code) [] c.args.count c.args.from c.args.octets.now) c.loop-test.true c.in_ok-more_of.ensures.gives c.in_ok-value.ensures.gives c.loop.invariant.0 in (
      ap (λ xs. many_at (λ front. value_at c.args.levels c.args.code) xs (c.args.count - (c.loop.counter + 1)) c.args.from c.in_ok-value.after.now) c.in_ok-push.ensures.ok ∙ more,
      omega (arith, c.in_ok-value.ensures.within, c.loop.invariant.1),
    )

pub values_of-returns-clause-gives : goal.values_of-returns-clause-gives
values_of-returns-clause-gives t c =
    is_done (λ front. value_at c.args.levels c.args.code) c.loop.items c.args.count c.loop.counter c.args.from c.loop.rest.now (many_at (λ front. value_at c.args.levels c.args.code) [] c.args.count c.args.from c.args.octets.now) c.loop-test.false c.loop.invariant.0

pub pairs_of-returns-in_err-more_of-clause-gives : goal.pairs_of-returns-in_err-more_of-clause-gives
pairs_of-returns-in_err-more_of-clause-gives t c =
    let p = err_from_is_err_and c.from_residual.result c.from_residual.ensures.1 in
    rw (p.1, p.2) (more_fails (pair_at (value_at c.args.levels)) c.in_err-more_of.field-0.0 c.loop.pairs c.args.count c.loop.counter c.args.from c.loop.rest.now
    (many_at (pair_at (value_at c.args.levels)) [] c.args.count c.args.from c.args.octets.now) c.loop-test.true c.in_err-more_of.ensures.gives c.loop.invariant.0)

pub pairs_of-returns-in_err-pair-clause-gives : goal.pairs_of-returns-in_err-pair-clause-gives
pairs_of-returns-in_err-pair-clause-gives t c =
    let p = err_from_is_err_and c.from_residual-in_err-pair.result c.from_residual-in_err-pair.ensures.1 in
    rw (p.1, p.2) (one_fails (pair_at (value_at c.args.levels)) c.in_err-pair.field-0.0 c.loop.pairs c.args.count c.loop.counter c.args.from c.loop.rest.now
    (many_at (pair_at (value_at c.args.levels)) [] c.args.count c.args.from c.args.octets.now) c.loop-test.true c.in_ok-more_of.ensures.gives ((subst (λ front. Fails c.in_err-pair.field-0.0 (pair_at (value_at c.args.levels) front c.loop.rest.now)) c.as_slice.ensures (c.in_err-pair.ensures.gives (subst (SeesLong c.loop.seen.keys) (sym c.as_slice.ensures) c.loop.invariant.1.0)))) c.loop.invariant.0)

pub pairs_of-loop-preserved : goal.pairs_of-loop-preserved
pairs_of-loop-preserved t c =
    let more = goes_on (pair_at (value_at c.args.levels)) c.loop.pairs c.args.count c.loop.counter c.args.from c.loop.rest.now c.in_ok-pair.pair c.in_ok-pair.after.now
    (many_at (pair_at (value_at c.args.levels)) [] c.args.count c.args.from c.args.octets.now) c.loop-test.true c.in_ok-more_of.ensures.gives (ap (λ front. pair_at (value_at c.args.levels) front c.loop.rest.now) (sym c.as_slice.ensures) ∙ c.in_ok-pair.ensures.gives (subst (SeesLong c.loop.seen.keys) (sym c.as_slice.ensures) c.loop.invariant.1.0)) c.loop.invariant.0 in (
      ap (λ xs. many_at (pair_at (value_at c.args.levels)) xs (c.args.count - (c.loop.counter + 1)) c.args.from c.in_ok-pair.after.now) c.in_ok-push.ensures.ok ∙ more,
      (
        subst (SeesLong c.pair_of.new.seen.keys) (ap (λ pairs. pairs ++ c.in_ok-pair.pair ∷ []) c.as_slice.ensures ∙ sym c.in_ok-push.ensures.ok)
            (c.in_ok-pair.ensures.sees (subst (SeesLong c.loop.seen.keys) (sym c.as_slice.ensures) c.loop.invariant.1.0)),
        omega (arith, c.in_ok-pair.ensures.within, c.loop.invariant.1.1),
      ),
    )

pub pairs_of-returns-clause-gives : goal.pairs_of-returns-clause-gives
pairs_of-returns-clause-gives t c =
    is_done (pair_at (value_at c.args.levels)) c.loop.pairs c.args.count c.loop.counter c.args.from c.loop.rest.now (many_at (pair_at (value_at c.args.levels)) [] c.args.count c.args.from c.args.octets.now) c.loop-test.false c.loop.invariant.0

pub pair_of-returns-clause-sees : goal.pair_of-returns-clause-sees
pair_of-returns-clause-sees t c = λ all. c.in_ok-is_new_key.ensures.sees all c.in_ok-value.value
