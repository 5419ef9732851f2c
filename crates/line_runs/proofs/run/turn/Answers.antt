-- Each thing that may come, by its lemma.
use Rattle.std.proofs.Common.{subst}
use Rattle.line_runs.specs.Run.{TakesLine}
use Rattle.line_runs.proofs.TurnLemmas.{line_moves_on, line_knows_end, turn_line, turn_long, turn_end, turn_failed, turn_past, turn_memory}
use Rattle.line_runs.proofs.run.turn.Goals as goal

pub returns-in-Line-clause-turns : goal.returns-in-Line-clause-turns
returns-in-Line-clause-turns g c = λ opened past left held stood at r.
    turn_line (g.T.LineTool.step opened) (g.T.LineTool.closing opened) left (g.T.LineTool.stands c.take_line.new.tool opened)
    (g.T.LineTool.given c.args.tool.now) (g.T.LineTool.given c.take_line.new.tool) (g.A.Source.left c.args.input.now) (g.A.Source.left c.next.new.input)
    held (g.B.Sink.held c.args.out.now) (g.B.Sink.held c.take_line.new.out) c.args.reading.now c.next.new.self past c.in-Line.line.items c.args.number c.take_line.result
    c.take_line.ensures.grows at r c.in-Line.ensures.takes
    (subst (λ xs. TakesLine (g.T.LineTool.step opened) (g.T.LineTool.stands c.take_line.new.tool opened) (g.T.LineTool.given c.take_line.new.tool) past xs c.args.number
    (g.B.Sink.held c.args.out.now) (g.B.Sink.held c.take_line.new.out) c.take_line.result) c.as_slice.ensures.value (c.take_line.ensures.takes opened past stood))

pub returns-in-Line-clause-moves_on : goal.returns-in-Line-clause-moves_on
returns-in-Line-clause-moves_on g c =
    line_moves_on (g.A.Source.left c.args.input.now) (g.A.Source.left c.next.new.input) c.args.reading.now c.next.new.self c.in-Line.line.items c.take_line.result c.in-Line.ensures.takes

pub returns-in-Line-clause-knows_end : goal.returns-in-Line-clause-knows_end
returns-in-Line-clause-knows_end g c =
    line_knows_end (g.A.Source.left c.args.input.now) (g.A.Source.left c.next.new.input) c.args.reading.now c.next.new.self c.in-Line.line.items c.take_line.result c.take_line.ensures.never_ends c.in-Line.ensures.takes

pub returns-in-LongLine-clause-turns : goal.returns-in-LongLine-clause-turns
returns-in-LongLine-clause-turns g c = λ opened past left held stood at r.
    turn_long (g.T.LineTool.step opened) (g.T.LineTool.closing opened) left (g.T.LineTool.given c.args.tool.now) (g.A.Source.left c.args.input.now) (g.A.Source.left c.next.new.input)
    held (g.B.Sink.held c.args.out.now) c.args.reading.now c.next.new.self past r c.args.number at c.in-LongLine.ensures.takes

pub returns-in-End-clause-turns : goal.returns-in-End-clause-turns
returns-in-End-clause-turns g c = λ opened past left held stood at r.
    turn_end (g.T.LineTool.step opened) (g.T.LineTool.closing opened) left (g.T.LineTool.given c.args.tool.now) (g.A.Source.left c.args.input.now) (g.A.Source.left c.next.new.input)
    held (g.B.Sink.held c.args.out.now) c.args.reading.now c.next.new.self past r (g.B.Sink.held c.close.new.out) c.close.result c.in-End.ensures.takes (c.close.ensures.closes opened past stood)

pub returns-in-Failed-clause-turns : goal.returns-in-Failed-clause-turns
returns-in-Failed-clause-turns g c = λ opened past left held stood at r.
    turn_failed (g.T.LineTool.step opened) (g.T.LineTool.closing opened) left (g.T.LineTool.given c.args.tool.now) (g.A.Source.left c.args.input.now) (g.A.Source.left c.next.new.input)
    held (g.B.Sink.held c.args.out.now) c.args.reading.now c.next.new.self past r c.in-Failed.ensures.takes

pub returns-in-TooMuch-clause-turns : goal.returns-in-TooMuch-clause-turns
returns-in-TooMuch-clause-turns g c = λ opened past left held stood at r.
    turn_past (g.T.LineTool.step opened) (g.T.LineTool.closing opened) left (g.T.LineTool.given c.args.tool.now) (g.A.Source.left c.args.input.now) (g.A.Source.left c.next.new.input)
    held (g.B.Sink.held c.args.out.now) c.args.reading.now c.next.new.self past r c.in-TooMuch.ensures.takes

pub returns-in-NoMemory-clause-turns : goal.returns-in-NoMemory-clause-turns
returns-in-NoMemory-clause-turns g c = λ opened past left held stood at r.
    turn_memory (g.T.LineTool.step opened) (g.T.LineTool.closing opened) left (g.T.LineTool.given c.args.tool.now) (g.A.Source.left c.args.input.now) (g.A.Source.left c.next.new.input)
    held (g.B.Sink.held c.args.out.now) c.args.reading.now c.next.new.self past r
