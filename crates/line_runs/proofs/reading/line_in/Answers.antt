-- The first LF behind the searched octets ends the line; without one the text is an open line, or too long.
use Rattle.std.proofs.Common.{◌+◌, ◌<◌, length, refl, subst, arith}
use Rattle.std.proofs.lemmas.List.{take_rest, length-drop}
use Rattle.line_runs.specs.Breaks.{IsUnbroken, BreaksAtFirst}
use Rattle.line_runs.proofs.Handing.{line_at, too_long, open_line, front_at, whole_unbroken}
use Rattle.line_runs.proofs.reading.line_in.Goals as goal

pub returns-in-Some : goal.returns-in-Some
returns-in-Some c =
    let text = c.args.text.now in
    let first = subst (λ xs. BreaksAtFirst xs c.in-Some.more) (take_rest text c.args.searched) c.in-Some.ensures in
    let within : c.args.searched + c.in-Some.more < length text = omega (arith, first.within, length-drop c.args.searched text) in
    (within, line_at text _ _ c.args.searched c.in-Some.more c.requires.unbroken first (omega arith) (omega arith) refl refl)

pub returns-in-Some-2 : goal.returns-in-Some-2
returns-in-Some-2 c =
    let text = c.args.text.now in
    let first = subst (λ xs. BreaksAtFirst xs c.in-Some.more) (take_rest text c.args.searched) c.in-Some.ensures in
    too_long text (c.args.searched + c.in-Some.more) (front_at text c.args.searched c.in-Some.more c.requires.unbroken first.before)
    (omega arith) (omega (arith, first.within, length-drop c.args.searched text))

pub returns-in-None : goal.returns-in-None
returns-in-None c =
    let text = c.args.text.now in
    open_line text c.args.searched c.requires.unbroken (subst IsUnbroken (take_rest text c.args.searched) c.in-None.ensures) (omega arith)

pub returns-in-None-2 : goal.returns-in-None-2
returns-in-None-2 c =
    let text = c.args.text.now in
    too_long text (length text) (whole_unbroken text c.args.searched c.requires.unbroken (subst IsUnbroken (take_rest text c.args.searched) c.in-None.ensures))
    (omega arith) (omega arith)
