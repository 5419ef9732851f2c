-- The closure tells of each session whether it lives on.
use Rattle.std.proofs.Common.{rules}
use Rattle.hub_core.proofs.StateLemmas.{left_alike}
use Rattle.hub_core.proofs.state.part_on.Goals as goal

pub returns : goal.returns
returns c = λ lives p.
    left_alike _ c.args.connection _ (λ k v b w f' t. record { lives = search rules; same = search rules; still = search rules }) _ c.retain.ensures.filtered p
