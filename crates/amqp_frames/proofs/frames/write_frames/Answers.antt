-- What was laid comes back, however the call ends.
use Rattle.std.proofs.Common.{◌<◌, ◌^◌, arith}
use Rattle.amqp_frames.proofs.Back.{comes_back}
use Rattle.amqp_frames.proofs.frames.write_frames.Goals as goal

pub returns-in_err-put_segments-clause-back : goal.returns-in_err-put_segments-clause-back
returns-in_err-put_segments-clause-back c = λ limits first frames m.
    let small : c.args.max_frame < 2 ^ 16 = omega arith in
    comes_back limits first frames c.args.channel c.args.assembly.now c.args.max_frame c.requires small m

pub returns-in_err-extend_from_slice-clause-back : goal.returns-in_err-extend_from_slice-clause-back
returns-in_err-extend_from_slice-clause-back c = λ limits first frames m.
    let small : c.args.max_frame < 2 ^ 16 = omega arith in
    comes_back limits first frames c.args.channel c.args.assembly.now c.args.max_frame c.requires small m

pub returns-clause-back : goal.returns-clause-back
returns-clause-back c = λ limits first frames m.
    let small : c.args.max_frame < 2 ^ 16 = omega arith in
    comes_back limits first frames c.args.channel c.args.assembly.now c.args.max_frame c.requires small m
