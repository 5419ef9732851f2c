-- The loop over pairs.
use Rattle.std.proofs.Common.{◌+◌, ◌-◌, ◌/◌, [], length, ap, ◌∙◌, arith}
use Rattle.std.proofs.lemmas.Result.{err_from_is_err_and}
use Rattle.amqp_packed.specs.Reading.{ranges_from}
use Rattle.amqp_packed.proofs.Loops.{range_fails, range_goes_on, ranges_done}
use Rattle.amqp_packed.proofs.read.ranges_of.Goals as goal

pub returns-in_err-range-clause-gives : goal.returns-in_err-range-clause-gives
returns-in_err-range-clause-gives c =
    let p = err_from_is_err_and c.from_residual.result c.from_residual.ensures.1 in
    rw (p.1, p.2) (range_fails c.in_err-range.field-0.0 c.loop.ranges.items (length c.args.octets.now / 8) c.loop.counter c.loop.rest.now
    (ranges_from (length c.args.octets.now / 8) [] c.args.octets.now) c.loop-test.true c.in_err-range.ensures.gives c.loop.invariant.0)

pub loop-preserved : goal.loop-preserved
loop-preserved c =
    let n = length c.args.octets.now / 8 in (
      ap (λ xs. ranges_from (n - (c.loop.counter + 1)) xs c.in_ok-range.after.now) c.in_ok-push.ensures.items
          ∙ range_goes_on c.loop.ranges.items n c.loop.counter c.loop.rest.now c.in_ok-range.range c.in_ok-range.after.now (ranges_from n [] c.args.octets.now) c.loop-test.true c.in_ok-range.ensures.gives c.loop.invariant.0,
      omega (arith, c.in_ok-range.ensures.within, c.loop.invariant.1),
    )

pub returns-clause-gives : goal.returns-clause-gives
returns-clause-gives c =
    ranges_done c.loop.ranges.items (length c.args.octets.now / 8) c.loop.counter c.loop.rest.now (ranges_from (length c.args.octets.now / 8) [] c.args.octets.now) c.loop-test.false c.loop.invariant.0
