-- A sink without memory took a front of the closing lines.
use Rattle.std.proofs.Common.{subst, sym, inr}
use Rattle.line_runs.specs.Write.{IsFrontOf}
use Rattle.line_runs.proofs.run.close.Goals as goal

pub returns-in-Ok-clause-closes : goal.returns-in-Ok-clause-closes
returns-in-Ok-clause-closes g c = λ opened past stood.
    let m = c.in-NoMemory.ensures.moves in
    inr (record {
      text = c.in-Ok.text;
      front = m.front;
      closes = λ later. sym (c.in-Ok.ensures.closes opened past stood later);
      is_front = subst (λ p. IsFrontOf m.front p) c.as_slice.ensures m.is_front;
      appends = m.appends;
    })
