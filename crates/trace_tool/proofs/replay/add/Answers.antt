-- The row is put in both tables.
use Rattle.std.proofs.Common.{nat_cmp, [], sym, subst, refl}
use Rattle.history_model.specs.Pairs.{Paired}
use Rattle.history_model.proofs.Tables.{paired-insert}
use Rattle.std.specs.BTreeMap.{insert_entry}
use Rattle.broker_engine.specs.Trace.{Link}
use Rattle.trace_tool.specs.declared.wire.Wire.{Wire}
use Rattle.trace_tool.specs.Replay.{IsLink}
use Rattle.trace_tool.proofs.replay.add.Goals as goal

pub returns : goal.returns
returns c = λ links p t.
    let wire : Wire = record { number = c.args.number; conn = c.args.conn } in
    let link : Link = record { number = c.args.number; heard = [] } in
    subst (λ es. Paired IsLink es (insert_entry nat_cmp links c.args.connection link)) (sym c.in_ok-insert.ensures.entries)
    (paired-insert IsLink nat_cmp c.args.connection wire link (record { number_is = refl; talks = t }) p)
