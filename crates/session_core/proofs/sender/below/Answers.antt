-- Where the numbers reach this one.
use Rattle.std.proofs.Common.{rules, of_calls, nat_lt, ◌^◌}
use Rattle.std.proofs.lemmas.Fn.{always_returns_same}
use Rattle.std.proofs.lemmas.List.Sorted.{IsPartitionedBy-ltb}
use Rattle.session_core.proofs.Sending.{rises, split_numbers}
use Rattle.session_core.proofs.sender.below.Goals as goal

pub returns : goal.returns
returns c =
    split_numbers c.args.numbers.now.items c.args.number c.partition_point.result (search rules)
    (c.partition_point.ensures.partitioned (λ n. nat_lt n c.args.number) (always_returns_same _ _ _ (λ a r f k. search (rules, of_calls)))
    (IsPartitionedBy-ltb (λ n. n) c.args.numbers.now.items c.args.number (rises 0 (2 ^ 62) c.args.numbers.now.items c.requires)))
