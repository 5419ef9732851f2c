-- Each turn goes on to a number that isn't named yet, or ends.
use Rattle.std.proofs.Common.{arith, inl, inr}
use Rattle.std.proofs.lemmas.Bool.{or_left, or_right, cases_lt}
use Rattle.serial_ranges.specs.Runs.{names}
use Rattle.history_model.specs.Life.{named}
use Rattle.session_core.proofs.Reaching.{named_reach, missing_reach, past_reach}
use Rattle.session_core.proofs.receiver.least_unnamed.Goals as goal

pub loop-at-smaller : goal.loop-at-smaller
loop-at-smaller c =
    let m = missing_reach c.args.ahead.now c.loop-at.at c.least_missing-missing.result c.requires.reach c.loop-at.invariant.1 c.least_missing-missing.ensures in
    let p = past_reach (named c.args.reference c.args.ranges.now) c.least_missing-missing.result c.past-next.result (λ n. named_reach c.args.reference c.args.ranges.now n c.requires.low) m c.past-next.ensures in
    omega (arith, p, c.least_missing-missing.ensures.from_there, c.past-next.ensures.from_there, c.if-next-at.false)

pub loop-at-preserved : goal.loop-at-preserved
loop-at-preserved c =
    let runs = named c.args.reference c.args.ranges.now in
    let m = missing_reach c.args.ahead.now c.loop-at.at c.least_missing-missing.result c.requires.reach c.loop-at.invariant.1 c.least_missing-missing.ensures in
    let p = past_reach runs c.least_missing-missing.result c.past-next.result (λ n. named_reach c.args.reference c.args.ranges.now n c.requires.low) m c.past-next.ensures in (
      omega (arith, c.loop-at.invariant.0, c.least_missing-missing.ensures.from_there, c.past-next.ensures.from_there),
      p,
      λ n ge lt.
          elim (cases_lt n c.loop-at.at) [
            | inl lt' ↦ c.loop-at.invariant.2 n ge lt'
            | inr ge' ↦ elim (cases_lt n c.least_missing-missing.result) [
              | inl lt' ↦ or_right (names runs n) (names c.args.ahead.now n) (c.least_missing-missing.ensures.before n ge' lt')
              | inr ge'' ↦ or_left (names runs n) (names c.args.ahead.now n) (c.past-next.ensures.before n ge'' lt)
            ]
          ],
    )
