-- The tables agree on the channel, the name and the number of sessions.
use Rattle.std.proofs.Common.{◌≡◌, not, is_some, ◌&&◌, true, ap, sym, ◌∙◌, rules}
use Rattle.hub_core.specs.Places.{holder_in}
use Rattle.hub_core.proofs.StateLemmas.{attach_same}
use Rattle.hub_core.proofs.state.State.may_attach.Goals as goal

pub returns-then-free : goal.returns-then-free
returns-then-free c = λ w queues s.
    let free : not (is_some (holder_in c.args.self.now.places c.args.connection c.args.channel)) ≡ true = search rules in
    ap (λ b. b && c.is_new_name-new.result) (sym free)
    ∙ ap (λ b. not (is_some (holder_in c.args.self.now.places c.args.connection c.args.channel)) && b) c.is_new_name-new.ensures
    ∙ attach_same c.args.self.now w queues c.args.connection c.args.channel c.args.name.now s
