-- The copies so far.
use Rattle.std.proofs.Common.{◌≡◌, take}
use Rattle.branch_intents.proofs.intents.Intents.copied.Given as goal

abbrev pub invariant-loop-intent : goal.invariant-loop-intent
invariant-loop-intent l = l.items.items ≡ take l.intent-index l.self.items
