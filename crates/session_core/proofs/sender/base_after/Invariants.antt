-- So many ranges were named.
use Rattle.std.proofs.Common.{◌≡◌, max, drop}
use Rattle.history_model.specs.Life.{named, past_named}
use Rattle.session_core.proofs.sender.base_after.Given as goal

abbrev pub invariant-loop-range : goal.invariant-loop-range
invariant-loop-range l =
    max (past_named l.limit (named l.limit (drop l.range-index l.ranges))) l.after ≡ max (past_named l.fn.limit (named l.fn.limit l.fn.ranges)) l.fn.base
