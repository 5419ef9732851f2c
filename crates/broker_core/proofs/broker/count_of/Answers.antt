-- The numbers of a set are below 2^63, and so is how many they are.
use Rattle.std.proofs.Common.{◌∙◌, ap, arith, subst, sym}
use Rattle.serial_ranges.specs.Runs.{Rise}
use Rattle.broker_core.specs.Commands.{count_of}
use Rattle.broker_core.proofs.Counting.{count_bound}
use Rattle.broker_core.proofs.broker.count_of.Goals as goal

pub loop-lower-init : goal.loop-lower-init
loop-lower-init c =
    let runs = c.into_iter-lower-iterator.ensures.into_iter_gives ∙ c.iter-lower-items.ensures.gives in
    ((0, subst (Rise 0) (sym runs) c.iter-lower-items.ensures.runs), omega (arith, ap count_of runs), omega (arith, count_bound 0 c.args.numbers.now c.iter-lower-items.ensures.runs))
