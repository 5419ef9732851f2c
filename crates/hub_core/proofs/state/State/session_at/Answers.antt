-- The holder's name finds the session and its life.
use Rattle.std.proofs.Common.{◌≡◌, Some, sym, subst, ◌∙◌}
use Rattle.std.specs.Option.{option_copied}
use Rattle.history_model.specs.Pairs.{Both}
use Rattle.history_model.specs.Standing.{is_name, life_at, life_of}
use Rattle.history_model.proofs.Tables.{paired-lookup}
use Rattle.hub_core.specs.Stands.{Sits}
use Rattle.hub_core.proofs.state.State.session_at.Goals as goal

pub returns : goal.returns
returns c = λ w queues s.
    let holder : w.holder c.args.connection c.args.channel ≡ Some c.in-Some.name.now = sym (s.holders c.args.connection c.args.channel) ∙ sym c.in-Some.ensures in
    subst (λ o. Both Sits (option_copied c.get-2.result) (life_at w o)) (sym holder)
    (subst (λ o. Both Sits o (life_of w c.in-Some.name.now)) (sym c.get-2.ensures.value) (paired-lookup Sits (is_name c.in-Some.name.now) s.lives_are))
