-- The rows print as the lives do.
use Rattle.std.proofs.Common.{◌≡◌, ◌++◌, OnOk, subst}
use Rattle.hub_core.proofs.ReportLemmas.{rows_lines}
use Rattle.hub_core.proofs.report.push_sessions.Goals as goal

pub returns : goal.returns
returns c = λ lives p.
    subst (λ xs. OnOk c.push_rows.result (c.push_rows.new.text.items ≡ c.args.text.now.items ++ xs)) (rows_lines c.args.names.now p) c.push_rows.ensures
