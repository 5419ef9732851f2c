-- Where the upper ends reach the number.
use Rattle.std.proofs.Common.{rules, of_calls, nat_lt}
use Rattle.std.proofs.lemmas.Fn.{always_returns_same}
use Rattle.std.proofs.lemmas.List.Sorted.{IsPartitionedBy-ltb}
use Rattle.serial_ranges.proofs.Splitting.{uppers_rise, split_uppers}
use Rattle.serial_ranges.proofs.range_set.ended.Goals as goal

pub returns : goal.returns
returns c =
    split_uppers c.args.runs.now c.args.number c.partition_point.result c.partition_point.ensures.bound
    (c.partition_point.ensures.partitioned (λ run. nat_lt run.1 c.args.number) (always_returns_same _ _ _ (λ a r f k. search (rules, of_calls)))
    (IsPartitionedBy-ltb (λ run. run.1) c.args.runs.now c.args.number (uppers_rise 0 c.args.runs.now c.requires)))
