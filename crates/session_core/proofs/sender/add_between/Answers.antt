-- All are below 2^62.
use Rattle.std.proofs.Common.{◌∙◌, ◌^◌, ◌||◌, sym, ap, subst}
use Rattle.std.specs.VecDeque.Iter.{deque_iter_rest}
use Rattle.serial_ranges.specs.Runs.{names}
use Rattle.session_core.specs.Sent.{has, Below}
use Rattle.session_core.proofs.Sending.{below_range, rise_below}
use Rattle.session_core.proofs.sender.add_between.Goals as goal

pub loop-number-init : goal.loop-number-init
loop-number-init c =
    let rest = ap deque_iter_rest c.into_iter-number-iterator.ensures.into_iter_gives ∙ c.range-number-items.ensures.rest in (
      subst (Below (2 ^ 62)) (sym rest) (below_range (2 ^ 62) c.args.numbers.now.items c.between-start.result.0 c.between-start.result.1 (rise_below 0 (2 ^ 62) c.args.numbers.now.items c.requires.rise)),
      λ n. ap (λ ns. has ns n || names c.args.set.now n) rest,
    )
