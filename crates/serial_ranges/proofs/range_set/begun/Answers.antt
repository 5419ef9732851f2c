-- Where the lower ends pass the number.
use Rattle.std.proofs.Common.{rules, of_calls, nat_le}
use Rattle.std.proofs.lemmas.Fn.{always_returns_same}
use Rattle.std.proofs.lemmas.List.Sorted.{IsPartitionedBy-leb}
use Rattle.serial_ranges.proofs.Splitting.{lowers_rise, split_lowers}
use Rattle.serial_ranges.proofs.range_set.begun.Goals as goal

pub returns : goal.returns
returns c =
    split_lowers c.args.runs.now c.args.number c.partition_point.result c.partition_point.ensures.bound
    (c.partition_point.ensures.partitioned (λ run. nat_le run.0 c.args.number) (always_returns_same _ _ _ (λ a r f k. search (rules, of_calls)))
    (IsPartitionedBy-leb (λ run. run.0) c.args.runs.now c.args.number (lowers_rise 0 c.args.runs.now c.requires)))
