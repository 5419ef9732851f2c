-- A piece came, or the end, or one octet too many.
use Rattle.std.proofs.Common.{◌≡◌, ◌-◌, length, take, None, Some, sym, subst, arith}
use Rattle.std.proofs.lemmas.List.{length-take-le}
use Rattle.std.specs.Io.KnownBytes.{Consumes}
use Rattle.octet_tools.specs.Course.{course}
use Rattle.octet_tools.specs.Run.{Puts, Reached}
use Rattle.octet_tools.specs.Taking.{StandsFor}
use Rattle.octet_tools.proofs.Running.{reached_more, ends_well, ends_past, ends_in_piece, fits_room}
use Rattle.octet_tools.proofs.run.turn.Goals as goal

pub returns-then-room-eq0-clause-turns : goal.returns-then-room-eq0-clause-turns
returns-then-room-eq0-clause-turns g c = λ left held r.
    let m = c.in-Took.ensures.moves in
    let last = take c.in-Took.count c.read.new.into in
    ends_past c.args.tool left (g.A.Source.left c.args.input.now) (g.A.Source.left c.read.new.self) held (g.B.Sink.held c.args.out.now) c.args.stage.now last
    (subst (Reached c.args.tool left (g.A.Source.left c.args.input.now) held (g.B.Sink.held c.args.out.now) c.args.stage.now) c.if-room-eq0.true r) m.2 (omega (arith, m.0, length-take-le c.in-Took.count c.read.new.into m.1))

pub returns-in-None-clause-turns : goal.returns-in-None-clause-turns
returns-in-None-clause-turns g c = λ left held r le.
    let m = c.in-Took.ensures.moves in
    let piece = c.split_at.result.0.now in
    let long : length piece ≡ c.in-Took.count = c.split_at.ensures.front_len in
    let moved : Consumes (g.A.Source.left c.args.input.now) (g.A.Source.left c.read.new.self) piece = subst (Consumes (g.A.Source.left c.args.input.now) (g.A.Source.left c.read.new.self)) (sym c.split_at.ensures.front) m.2 in
    let p : Puts c.args.tool (StandsFor c.put_piece.new.stage) (course r.took) piece (g.B.Sink.held c.args.out.now) (g.B.Sink.held c.put_piece.new.out) None = c.in-None.ensures.puts (course r.took) r.stands in
    subst (λ n. Reached c.args.tool left (g.A.Source.left c.read.new.self) held (g.B.Sink.held c.put_piece.new.out) c.put_piece.new.stage (c.args.room - n)) long
    (reached_more c.args.tool left (g.A.Source.left c.args.input.now) (g.A.Source.left c.read.new.self) held (g.B.Sink.held c.args.out.now) (g.B.Sink.held c.put_piece.new.out) c.args.stage.now c.put_piece.new.stage c.args.room piece
    r moved p.0 p.1 (omega (arith, long, le)))

pub returns-in-Some-clause-turns : goal.returns-in-Some-clause-turns
returns-in-Some-clause-turns g c = λ left held r.
    let m = c.in-Took.ensures.moves in
    let piece = c.split_at.result.0.now in
    let long : length piece ≡ c.in-Took.count = c.split_at.ensures.front_len in
    let moved : Consumes (g.A.Source.left c.args.input.now) (g.A.Source.left c.read.new.self) piece = subst (Consumes (g.A.Source.left c.args.input.now) (g.A.Source.left c.read.new.self)) (sym c.split_at.ensures.front) m.2 in
    let p : Puts c.args.tool (StandsFor c.put_piece.new.stage) (course r.took) piece (g.B.Sink.held c.args.out.now) (g.B.Sink.held c.put_piece.new.out) (Some c.in-Some.ended) = c.in-Some.ensures.puts (course r.took) r.stands in
    ends_in_piece c.args.tool left (g.A.Source.left c.args.input.now) (g.A.Source.left c.read.new.self) held (g.B.Sink.held c.args.out.now) (g.B.Sink.held c.put_piece.new.out) c.args.stage.now (StandsFor c.put_piece.new.stage) c.args.room piece c.in-Some.ended
    r moved (fits_room c.args.room c.in-Took.count (length piece) (length c.read.new.into) long m.1 (omega (arith, c.requires.few, c.read.auto.into)) c.if-room-eq0.false) p

pub returns-in-End-clause-turns : goal.returns-in-End-clause-turns
returns-in-End-clause-turns g c = λ left held r.
    ends_well c.args.tool left (g.A.Source.left c.args.input.now) (g.A.Source.left c.read.new.self) held (g.B.Sink.held c.args.out.now) c.args.stage.now c.args.room r c.in-End.ensures.moves.0
