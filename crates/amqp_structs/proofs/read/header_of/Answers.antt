-- The loop over structs.
use Rattle.std.proofs.Common.{◌+◌, ◌-◌, length, ap, ◌∙◌, arith}
use Rattle.std.proofs.lemmas.Result.{err_from_is_err_and}
use Rattle.amqp_structs.specs.Header.{structs_at, header_in}
use Rattle.amqp_structs.proofs.Loops.{some_left, empty, fails, goes_on, all_read, is_done}
use Rattle.amqp_structs.proofs.read.header_of.Goals as goal

pub returns-then-is_empty-clause-gives : goal.returns-then-is_empty-clause-gives
returns-then-is_empty-clause-gives c =
    all_read (length c.args.octets.now - c.loop.counter) c.loop.header c.loop.rest.now (header_in c.args.octets.now) (empty c.loop.rest.now c.is_empty.result c.is_empty.ensures c.if-is_empty.true) c.loop.invariant.0

pub returns-in_err-item-clause-gives : goal.returns-in_err-item-clause-gives
returns-in_err-item-clause-gives c =
    let p = err_from_is_err_and c.from_residual.result c.from_residual.ensures.1 in
    rw (p.1, p.2) (fails c.in_err-item.field-0.0 c.loop.header (length c.args.octets.now) c.loop.counter c.loop.rest.now (header_in c.args.octets.now) c.loop-test.true
    (some_left (length c.loop.rest.now) c.is_empty.result c.is_empty.ensures c.if-is_empty.false) c.in_err-item.ensures.gives c.loop.invariant.0)

pub loop-preserved : goal.loop-preserved
loop-preserved c = (
  ap (λ xs. structs_at (length c.args.octets.now - (c.loop.counter + 1)) xs c.in_ok-item.after.now) c.in_ok-push.ensures.ok
      ∙ goes_on c.loop.header (length c.args.octets.now) c.loop.counter c.loop.rest.now c.in_ok-item.item c.in_ok-item.after.now (header_in c.args.octets.now) c.loop-test.true
      (some_left (length c.loop.rest.now) c.is_empty.result c.is_empty.ensures c.if-is_empty.false) c.in_ok-item.ensures.gives c.loop.invariant.0,
  omega (arith, c.in_ok-item.ensures.within, c.loop.invariant.1),
)

pub returns-clause-gives : goal.returns-clause-gives
returns-clause-gives c = is_done c.loop.header (length c.args.octets.now) c.loop.counter c.loop.rest.now (header_in c.args.octets.now) c.loop-test.false c.loop.invariant.0
