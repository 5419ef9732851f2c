-- By the law of what is read again.
use Rattle.std.proofs.Common.{◌∙◌, ap, subst}
use Rattle.keeper_rows.specs.Form.{kept_in, Answers}
use Rattle.keeper_rows.proofs.Again.{kept_again}
use Rattle.keeper_rows.proofs.read.read_row.Goals as goal

pub returns-clause-only : goal.returns-clause-only
returns-clause-only c = λ kept is.
    let read = ap (λ k. kept_in k c.as_slice-2.result.now) c.as_slice.ensures ∙ ap (kept_in c.args.row.now.key) c.as_slice-2.ensures in
    subst (Answers c.read_parts.result) (read ∙ kept_again c.args.row.now.key c.args.row.now.content kept is) c.read_parts.ensures.exact
