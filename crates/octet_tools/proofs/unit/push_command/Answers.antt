-- A listed command goes by its kind.
use Rattle.std.proofs.Common.{◌≡◌, ◌++◌, OnOk, sym, subst}
use Rattle.octet_tools.proofs.Showing.{listed_text}
use Rattle.octet_tools.proofs.unit.push_command.Goals as goal

pub returns-in-Some : goal.returns-in-Some
returns-in-Some c =
    subst (λ xs. OnOk c.push_listed.result (c.push_listed.new.text.items ≡ c.args.text.now.items ++ xs)) (listed_text c.args.sync c.args.command.now c.in-Some.kind (sym c.in-Some.ensures)) c.push_listed.ensures
