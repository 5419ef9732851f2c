-- The key is noted where there are many pairs.
use Rattle.std.proofs.Common.{◌≤◌, length, arith}
use Rattle.amqp_values.proofs.Noting.{on_noted, sees_many}
use Rattle.amqp_values.proofs.keys.is_new_key.Goals as goal

pub returns-clause-sees : goal.returns-clause-sees
returns-clause-sees c = λ long.
    let many : 64 ≤ length c.args.before.now = omega (arith, c.if-before-lt-FEW.false) in
    on_noted c.add_key.result _ _ c.add_key.ensures.added
    (λ added value. sees_many c.catch_up.new.seen.keys c.add_key.new.seen.keys c.args.before.now c.args.key.now value many (c.in_ok-catch_up.ensures long) added)
