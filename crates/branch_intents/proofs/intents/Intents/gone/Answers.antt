-- What stays is what isn't on the copy or the queue.
use Rattle.std.proofs.Common.{rules, of_calls, ◌∙◌, not, filter, ap}
use Rattle.std.proofs.lemmas.Fn.{filter_same}
use Rattle.branch_intents.specs.Intents.{Intended, is_on}
use Rattle.branch_intents.proofs.intents.Intents.gone.Goals as goal

pub returns-clause-items : goal.returns-clause-items
returns-clause-items c =
    filter_same _ (λ intent. not (is_on c.args.queue.now c.args.number intent)) _ (λ x b f k. search (rules, of_calls)) c.self.inside.items.items c.retain.new.self.items c.retain.ensures.filtered
    ∙ ap (λ (v : Intended). filter (λ intent. not (is_on c.args.queue.now c.args.number intent)) v.items) c.self.view_is
