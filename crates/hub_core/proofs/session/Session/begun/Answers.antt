-- Both halves have heard of nothing but the attach.
use Rattle.std.proofs.Common.{refl, []}
use Rattle.session_core.proofs.Receiving.{attach_is}
use Rattle.hub_core.proofs.StateLemmas.{sends_attach}
use Rattle.hub_core.proofs.session.Session.begun.Goals as goal

pub returns : goal.returns
returns c = record {
  place_is = refl;
  attached = refl;
  brief = refl;
  pointed = refl;
  receives = attach_is c.new.result [] c.args.connection c.args.channel c.new.ensures;
  sends = sends_attach c.new-2.result c.args.connection c.args.channel c.new-2.ensures;
}
