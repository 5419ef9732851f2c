-- What is kept while bindings go; the exchanges that are left to be looked at get fewer.
use Rattle.std.proofs.Common.{◌≡◌, ◌≤◌, ◌-◌, length, take, drop, true, filter}
use Rattle.std.specs.List.{AllByRecursion}
use Rattle.exchange_core.specs.Exchanges.{OwnRows, is_other, stays}
use Rattle.exchange_core.proofs.Unbinding.{Clear, Untouched}
use Rattle.exchange_core.proofs.exchanges.unbind_all.Given as goal

abbrev pub invariant-loop-index : goal.invariant-loop-index
invariant-loop-index l = record {
  owns : OwnRows l.names.entries l.bindings.rows;
  others : filter (is_other l.queue) l.bindings.rows ≡ filter (is_other l.queue) l.initial.bindings.rows;
  clear : AllByRecursion (Clear l.queue l.bindings.rows) (take l.index l.names.entries);
  untouched : AllByRecursion (Untouched l.queue l.bindings.rows l.initial.bindings.rows) (drop l.index l.names.entries);
  staying : AllByRecursion (λ e. stays l.queue l.initial.bindings.rows e ≡ true) (take l.index l.names.entries);
  entries : filter (stays l.queue l.initial.bindings.rows) l.names.entries ≡ filter (stays l.queue l.initial.bindings.rows) l.initial.names.entries;
  free : length l.initial.names.free ≤ length l.names.free;
  room : l.initial.bindings.room ≤ l.bindings.room;
}

abbrev pub decreases-loop-index : goal.decreases-loop-index
decreases-loop-index l = length l.names.entries - l.index
