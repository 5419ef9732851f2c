-- The base goes on, not past what was given.
use Rattle.std.proofs.Common.{◌≡◌, ◌∙◌, ◌+◌, ◌-◌, max, length, drop, sym, ap, subst, arith, ℕ, List}
use Rattle.std.proofs.lemmas.List.{length-drop}
use Rattle.history_model.specs.Life.{named, past_named}
use Rattle.session_core.specs.Sent.{Sending, sent_by, Rise}
use Rattle.session_core.proofs.Keeping.{named_low, confirmed_is}
use Rattle.session_core.proofs.sender.Sender.confirmed.Goals as goal

pub let_go-requires : goal.let_go-requires
let_go-requires c =
    let base = c.self.inside.base in
    let sent : c.sent.result ≡ base + length c.self.inside.kept.items = c.sent.ensures.value ∙ sym (ap sent_by c.self.view_is) in
    omega (arith, sent, c.base_after-base.ensures, named_low c.sent.result (named c.sent.result c.as_slice.result.now))

pub invariant_of-self : goal.invariant_of-self
invariant_of-self c =
    let base = c.self.inside.base in
    let kept = c.self.inside.kept.items in
    let sent : c.sent.result ≡ base + length kept = c.sent.ensures.value ∙ sym (ap sent_by c.self.view_is) in
    let same : base + length kept ≡ c.base_after-base.result + length c.let_go.new.kept.items =
    omega (arith, sent, c.base_after-base.ensures, named_low c.sent.result (named c.sent.result c.as_slice.result.now), length-drop (c.base_after-base.result - base) kept) ∙ ap (λ us. c.base_after-base.result + length us) (sym c.let_go.ensures.items) in
    (omega (arith, same, c.self.invariant.0), subst (λ limit. Rise 0 limit c.self.inside.uncompleted.items) same c.self.invariant.1)

pub returns-clause-confirmed : goal.returns-clause-confirmed
returns-clause-confirmed c = λ h s.
    let old = c.args.self.now in
    let base = c.self.inside.base in
    let runs : List (ℕ × ℕ) = named (sent_by old) c.args.ranges.now in
    let same : named c.sent.result c.as_slice.result.now ≡ runs = ap (named c.sent.result) c.as_slice.ensures ∙ ap (λ n. named n c.args.ranges.now) c.sent.ensures.value in
    let after = c.base_after-base.ensures ∙ ap (λ rs. max (past_named c.sent.result rs) base) same ∙ ap (λ n. max (past_named n runs) base) c.sent.ensures.value
    ∙ ap (λ (v : Sending). max (past_named (sent_by old) runs) v.base) c.self.view_is in
    confirmed_is old _ h runs s after (c.let_go.ensures.items ∙ ap (λ (v : Sending). drop (c.base_after-base.result - v.base) v.kept) c.self.view_is) (ap (λ (v : Sending). v.uncompleted) c.self.view_is)
