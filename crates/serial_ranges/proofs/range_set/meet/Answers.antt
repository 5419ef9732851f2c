-- The run that ends first is passed.
use Rattle.std.proofs.Common.{sym, subst}
use Rattle.serial_ranges.proofs.Splitting.{Meeting, meeting_start, step_first, step_other}
use Rattle.serial_ranges.proofs.range_set.meet.Goals as goal

pub loop-x-init : goal.loop-x-init
loop-x-init c = subst (λ zs. Meeting c.args.one.now c.args.other.now zs c.args.one.now c.args.other.now) (sym c.requires.none) (meeting_start c.args.one.now c.args.other.now c.requires.one c.requires.other)

pub loop-x-preserved-then-x-y : goal.loop-x-preserved-then-x-y
loop-x-preserved-then-x-y c =
    step_first c.args.one.now c.args.other.now c.loop-x.out.items c.push_common.new.out.items c.loop-x.xs.now c.loop-x.ys.now c.in-Some.more_xs.now c.in-Some-split_first.more_ys.now c.in-Some.x.now c.in-Some-split_first.y.now
    c.in-Some.ensures.cases.0 c.in-Some-split_first.ensures.cases.0 c.in_ok-push_common.ensures c.loop-x.invariant c.if-x-y.true

pub loop-x-preserved : goal.loop-x-preserved
loop-x-preserved c =
    step_other c.args.one.now c.args.other.now c.loop-x.out.items c.push_common.new.out.items c.loop-x.xs.now c.loop-x.ys.now c.in-Some.more_xs.now c.in-Some-split_first.more_ys.now c.in-Some.x.now c.in-Some-split_first.y.now
    c.in-Some.ensures.cases.0 c.in-Some-split_first.ensures.cases.0 c.in_ok-push_common.ensures c.loop-x.invariant c.if-x-y.false
