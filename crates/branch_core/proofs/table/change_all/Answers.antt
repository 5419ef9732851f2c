-- One after another is changed.
use Rattle.std.proofs.Common.{◌∙◌, length, ap, sym, arith}
use Rattle.sorted_map.specs.Map.{changed_at}
use Rattle.sorted_map.proofs.Showing.{seen_length, seen_change, changed_one, changed_all, changed_length}
use Rattle.branch_core.specs.Held.{held, changed_by}
use Rattle.branch_core.specs.State.{branches_of}
use Rattle.branch_core.proofs.table.change_all.Goals as goal

pub value_mut-requires : goal.value_mut-requires
value_mut-requires c = omega (arith, c.loop-index-test.true, c.loop-index.invariant.0, sym (seen_length held c.loop-index.branches.entries) ∙ (ap length c.loop-index.invariant.1 ∙ (changed_length c.loop-index.index (changed_by c.args.change) (branches_of c.args.branches.now.entries) ∙ seen_length held c.args.branches.now.entries)))

pub loop-index-preserved : goal.loop-index-preserved
loop-index-preserved c = (
  c.loop-index.invariant.0,
  seen_change held (changed_by c.args.change) c.loop-index.branches.entries c.loop-index.index c.value_mut.result.now c.change.new.self c.value_mut.ensures.value c.change.ensures
      ∙ (ap (changed_at c.loop-index.index (changed_by c.args.change)) c.loop-index.invariant.1 ∙ changed_one c.loop-index.index (changed_by c.args.change) (branches_of c.args.branches.now.entries)),
)

pub returns : goal.returns
returns c = c.loop-index.invariant.1 ∙ changed_all c.loop-index.index (changed_by c.args.change) (branches_of c.args.branches.now.entries) (omega (arith, c.loop-index-test.false, c.loop-index.invariant.0, seen_length held c.args.branches.now.entries))
