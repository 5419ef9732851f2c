-- What stands at the place tells.
use Rattle.std.proofs.Common.{rules, ◌≡◌, ◌+◌, sym, ◌∙◌, subst, take, None, arith, suc}
use Rattle.credit_core.specs.Turns.{ready}
use Rattle.credit_core.proofs.Turning.{hit, miss, short}
use Rattle.credit_core.proofs.subs.first_ready.Goals as goal

pub returns-in_default-get : goal.returns-in_default-get
returns-in_default-get c =
    sym (short c.loop-place.place c.args.places.now.items c.args.offers.now (search rules) c.loop-place.invariant)

pub returns-then-takes : goal.returns-then-takes
returns-then-takes c =
    sym (hit c.loop-place.place c.args.places.now.items c.args.offers.now c.in-Some.state.now c.in-Some-get.offer.now (search rules) (search rules) (search rules) (search rules)
    c.loop-place.invariant (sym c.takes.ensures ∙ c.if-takes.true))

pub loop-place-preserved : goal.loop-place-preserved
loop-place-preserved c =
    let next : suc c.loop-place.place ≡ c.loop-place.place + 1 = omega arith in
    subst (λ n. ready (take n c.args.places.now.items) c.args.offers.now ≡ None) next
    (miss c.loop-place.place c.args.places.now.items c.args.offers.now c.in-Some.state.now c.in-Some-get.offer.now (search rules) (search rules) (search rules) (search rules)
    c.loop-place.invariant (sym c.takes.ensures ∙ c.if-takes.false))
