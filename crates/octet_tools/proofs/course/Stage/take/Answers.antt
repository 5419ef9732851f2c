-- Octets before the first eight came, with them, and behind them.
use Rattle.std.proofs.Common.{◌≡◌, ◌+◌, ◌++◌, ◌<◌, length, take, ◌∙◌, ap, sym, subst, arith}
use Rattle.std.proofs.lemmas.List.{take-append-drop}
use Rattle.octet_tools.specs.Course.{opened}
use Rattle.octet_tools.specs.Taking.{StandsFor}
use Rattle.octet_tools.specs.declared.course.Stage.TheVariants as stage
use Rattle.octet_tools.proofs.Taking.{StageAt, stage_at, takes_open, opening_few, opening_all}
use Rattle.octet_tools.proofs.course.Stage.take.Goals as goal

pub returns-then-piece-missing : goal.returns-then-piece-missing
returns-then-piece-missing c = λ d s.
    let at : StageAt (stage.Opening c.in-Opening.octets) d = subst (λ x. StageAt x d) c.in-Opening.is (stage_at c.args.self.now d s) in
    opening_few c.args.tool (StandsFor (stage.Opening c.keep.new.octets)) d c.in-Opening.octets.items c.keep.new.octets.items c.args.piece.now c.args.text.now.items c.keep.result at.0 at.1 at.2
    (omega (arith, c.if-piece-missing.true, c.saturating_sub-missing.ensures, c.len.ensures)) (λ b e lt. (e, lt)) c.keep.ensures

pub returns-in-Open : goal.returns-in-Open
returns-in-Open c = λ d s.
    let at : StageAt (stage.Open c.in-Open.assembler) d = subst (λ x. StageAt x d) c.in-Open.is (stage_at c.args.self.now d s) in
    takes_open c.args.tool c.take_frames.new.assembler d c.args.piece.now c.args.text.now.items c.take_frames.new.text.items c.take_frames.result (c.take_frames.ensures d at)

pub returns-in-Ok : goal.returns-in-Ok
returns-in-Ok c = λ d s.
    let at : StageAt (stage.Opening c.in-Opening.octets) d = subst (λ x. StageAt x d) c.in-Opening.is (stage_at c.args.self.now d s) in
    let items = c.in-Opening.octets.items in
    let front = c.split_at.result.0.now in
    let rest = c.split_at.result.1.now in
    let short : length items < 8 = subst (λ n. n < 8) (sym (ap length at.2)) at.3 in
    let eight : length items + length front ≡ 8 = omega (arith, c.split_at.ensures.front_len, c.saturating_sub-missing.ensures, c.len.ensures, short) in
    let parts : front ++ rest ≡ c.args.piece.now =
    ap (λ xs. xs ++ rest) c.split_at.ensures.front ∙ ap (λ ys. take c.saturating_sub-missing.result c.args.piece.now ++ ys) c.split_at.ensures.back ∙ take-append-drop c.saturating_sub-missing.result c.args.piece.now in
    let o = c.in-Ok.ensures eight in
    opening_all c.args.tool (StandsFor (stage.Open c.take_frames-taken.new.assembler)) c.in-Ok.assembler d items front rest c.args.piece.now c.args.text.now.items c.begin.new.text.items c.take_frames-taken.new.text.items c.take_frames-taken.result
    at.0 at.1 at.2 parts (omega (arith, eight, short)) eight o
    (takes_open c.args.tool c.take_frames-taken.new.assembler (opened (items ++ front)) rest c.begin.new.text.items c.take_frames-taken.new.text.items c.take_frames-taken.result (c.take_frames-taken.ensures (opened (items ++ front)) o.0))
