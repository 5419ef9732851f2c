-- Its number is past all that were given.
use Rattle.std.proofs.Common.{◌≡◌, ◌+◌, ◌++◌, ◌∷◌, ◌<◌, ◌^◌, ◌∙◌, [], length, subst, sym, ap, arith}
use Rattle.std.proofs.lemmas.List.{length-append}
use Rattle.session_core.specs.Sent.{Rise, sent_by}
use Rattle.session_core.proofs.Sending.{rise_more}
use Rattle.session_core.proofs.sender.Sender.give.Goals as goal

pub invariant_of-self : goal.invariant_of-self
invariant_of-self c =
    let base = c.self.inside.base in
    let kept = c.self.inside.kept.items in
    let sent : c.sent-number.result ≡ base + length kept = c.sent-number.ensures.value ∙ sym (ap sent_by c.self.view_is) in
    let low : base + length kept < 2 ^ 62 = subst (λ s. sent_by s < 2 ^ 62) (sym c.self.view_is) c.requires.low in
    let more : base + length c.push_back_reserved.new.self.items ≡ base + length kept + 1 =
    ap (λ us. base + length us) c.push_back_reserved.ensures.items ∙ omega (arith, length-append kept (c.args.unit ∷ [])) in
    let numbers : c.push_back_reserved-2.new.self.items ≡ c.self.inside.uncompleted.items ++ (base + length kept) ∷ [] =
    c.push_back_reserved-2.ensures.items ∙ ap (λ n. c.self.inside.uncompleted.items ++ n ∷ []) sent in (
      omega (arith, more, low),
      subst (λ ns. Rise 0 (base + length c.push_back_reserved.new.self.items) ns) (sym numbers)
          (subst (λ limit. Rise 0 limit (c.self.inside.uncompleted.items ++ (base + length kept) ∷ [])) (sym more) (rise_more 0 (base + length kept) c.self.inside.uncompleted.items c.self.invariant.1)),
    )
