-- The runs of a set are ranges.
use Rattle.std.proofs.Common.{◌∙◌, ◌&&◌, not, refl, arith, sym, ap, subst}
use Rattle.serial_ranges.specs.Runs.{names, AreRanges}
use Rattle.session_core.specs.Sent.{has}
use Rattle.session_core.proofs.Sending.{are_ranges}
use Rattle.session_core.proofs.sender.complete.Goals as goal

pub loop-run-init : goal.loop-run-init
loop-run-init c =
    let runs = c.into_iter-run-iterator.ensures.into_iter_gives ∙ c.iter-run-items.ensures.gives in
    (subst AreRanges (sym runs) (are_ranges 0 c.args.firsts.now c.iter-run-items.ensures.runs), λ limit r. r, omega arith, refl, λ n. ap (λ rs. not (names rs n) && has c.args.uncompleted.now.items n) runs)
