-- The loop over kinds.
use Rattle.std.proofs.Common.{◌+◌, ◌/◌, [], drop, ap, ◌∙◌, arith}
use Rattle.std.proofs.lemmas.List.{drop_more, drop_all}
use Rattle.std.proofs.lemmas.Result.{err_from_is_err_and}
use Rattle.amqp_packed.specs.Reading.{slots_at, reader}
use Rattle.amqp_packed.proofs.Loops.{slot_fails, slot_goes_on, slots_done}
use Rattle.amqp_packed.proofs.read.+fields.Goals as goal

pub slots_of-returns-in_err-field-clause-gives : goal.slots_of-returns-in_err-field-clause-gives
slots_of-returns-in_err-field-clause-gives depth c =
    let p = err_from_is_err_and c.from_residual.result c.from_residual.ensures.1 in
    rw (p.1, p.2) (slot_fails c.in_err-field.field-0.0 (reader c.args.nested) _ (drop c.loop-kind.kind-index c.args.table.now) (drop (c.loop-kind.kind-index + 1) c.args.table.now) c.loop-kind.flags c.loop-kind.fields c.loop-kind.rest.now
    (slots_at (reader c.args.nested) c.args.table.now c.args.all [] c.args.octets.now) (drop_more c.args.table.now c.loop-kind.kind-index _ c.loop-kind-test.true) c.in_err-field.ensures.gives c.loop-kind.invariant.0)

pub slots_of-loop-kind-preserved : goal.slots_of-loop-kind-preserved
slots_of-loop-kind-preserved depth c = (
  ap (λ xs. slots_at (reader c.args.nested) (drop (c.loop-kind.kind-index + 1) c.args.table.now) (c.loop-kind.flags / 2) xs c.in_ok-field.after.now) c.in_ok-push.ensures.ok
      ∙ slot_goes_on (reader c.args.nested) _ (drop c.loop-kind.kind-index c.args.table.now) (drop (c.loop-kind.kind-index + 1) c.args.table.now) c.loop-kind.flags c.loop-kind.fields c.loop-kind.rest.now c.in_ok-field.field c.in_ok-field.after.now
      (slots_at (reader c.args.nested) c.args.table.now c.args.all [] c.args.octets.now) (drop_more c.args.table.now c.loop-kind.kind-index _ c.loop-kind-test.true) c.in_ok-field.ensures.gives c.loop-kind.invariant.0,
  omega (arith, c.in_ok-field.ensures.within, c.loop-kind.invariant.1),
)

pub slots_of-returns-clause-gives : goal.slots_of-returns-clause-gives
slots_of-returns-clause-gives depth c =
    slots_done (reader c.args.nested) (drop c.loop-kind.kind-index c.args.table.now) c.loop-kind.flags c.loop-kind.fields c.loop-kind.rest.now
    (slots_at (reader c.args.nested) c.args.table.now c.args.all [] c.args.octets.now) (drop_all c.loop-kind.kind-index c.args.table.now c.loop-kind-test.false) c.loop-kind.invariant.0
