-- Numbers stay within reach, and what is named before the next one isn't kept.
use Rattle.std.proofs.Common.{◌≡◌, ◌+◌, ◌^◌, ◌<◌, ◌||◌, ◌∙◌, true, ℕ, List, ◌∷◌, refl, inl, inr, sym, ap, subst, arith}
use Rattle.std.proofs.lemmas.Bool.{cases_Bool}
use Rattle.serial_ranges.specs.Runs.{AreRanges, names}
use Rattle.history_model.specs.Life.{Heard, Gap, named}
use Rattle.session_core.specs.Received.{Received, Receives, from_on}
use Rattle.session_core.proofs.Reaching.{named_are, named_reach, missing_reach, from_are, from_names, from_none, from_reach}
use Rattle.session_core.proofs.Receiving.{gap_is}
use Rattle.session_core.proofs.receiver.Receiver.gap.Goals as goal

either : (runs ahead more : List (ℕ × ℕ)) (limit : ℕ) → ((n : ℕ) → names runs n ≡ true → n < limit) → ((n : ℕ) → names ahead n ≡ true → n < limit)
    → ((n : ℕ) → names more n ≡ (names runs n || names ahead n)) → (n : ℕ) → names more n ≡ true → n < limit
either runs ahead more limit low low' all n e =
    elim (cases_Bool (names runs n)) [
      | inl t ↦ low n t
      | inr f ↦ low' n (sym (ap (λ b. b || names ahead n) f) ∙ sym (all n) ∙ e)
    ]

pub add_ranges-requires : goal.add_ranges-requires
add_ranges-requires c =
    let next = c.self.inside.next in
    let small = subst (λ (r : Received). r.next < 2 ^ 62) (sym c.self.view_is) c.requires in
    let runs = c.as_slice-2.ensures.value ∙ c.in_ok-runs.ensures ∙ ap (λ rs. from_on next (named next rs)) c.as_slice.ensures in
    subst AreRanges (sym runs) (from_are next (named next c.args.ranges.now) (named_are next c.args.ranges.now small))

pub invariant_of-self-2 : goal.invariant_of-self-2
invariant_of-self-2 c =
    let next = c.self.inside.next in
    let small = subst (λ (r : Received). r.next < 2 ^ 62) (sym c.self.view_is) c.requires in
    let runs = c.as_slice-2.ensures.value ∙ c.in_ok-runs.ensures ∙ ap (λ rs. from_on next (named next rs)) c.as_slice.ensures in
    let all = either c.as_slice-2.result.now c.self.inside.ahead c.add_ranges.new.self (2 ^ 62 + 2 ^ 33)
    (λ n e. named_reach next c.args.ranges.now n small (from_reach next (named next c.args.ranges.now) n (ap (λ rs. names rs n) (sym runs) ∙ e))) c.self.invariant.reach c.in_ok-add_ranges.ensures.adds in
    record {
      low = omega (arith, c.self.invariant.low, c.pass-self-inside.ensures.next.from_there);
      high = missing_reach c.add_ranges.new.self next c.pass-self-inside.result all c.self.invariant.high c.pass-self-inside.ensures.next;
      reach = λ n e. all n (c.pass-self-inside.ensures.left.none_new n e);
    }

pub returns-clause-gap : goal.returns-clause-gap
returns-clause-gap c =
    let next = c.self.inside.next in
    let before : Received = record { next = next; point = c.self.inside.point; ahead = c.self.inside.ahead } in
    let after : Received = record { next = c.pass-self-inside.result; point = c.self.inside.point; ahead = c.pass-self-inside.new.ahead } in
    let runs = c.as_slice-2.ensures.value ∙ c.in_ok-runs.ensures ∙ ap (λ rs. from_on next (named next rs)) c.as_slice.ensures in
    subst (λ (r : Received). (h : List Heard) → Receives r h → Receives after (Gap (named r.next c.args.ranges.now) ∷ h)) c.self.view_is
    (λ h s. gap_is before after h (named next c.args.ranges.now) c.add_ranges.new.self s
    (λ n le. c.in_ok-add_ranges.ensures.adds n ∙ ap (λ t. t || names c.self.inside.ahead n) (ap (λ rs. names rs n) runs ∙ from_names next (named next c.args.ranges.now) n le))
    c.pass-self-inside.ensures.next c.pass-self-inside.ensures.left refl)

pub returns-clause-kept : goal.returns-clause-kept
returns-clause-kept c =
    let next = c.self.inside.next in
    let runs = c.as_slice-2.ensures.value ∙ c.in_ok-runs.ensures ∙ ap (λ rs. from_on next (named next rs)) c.as_slice.ensures in
    subst (λ (r : Received). (n : ℕ) → names c.pass-self-inside.new.ahead n ≡ true → n < r.next → names r.ahead n ≡ true) c.self.view_is
    (λ n t lt. sym (ap (λ b. b || names c.self.inside.ahead n) (ap (λ rs. names rs n) runs ∙ from_none next (named next c.args.ranges.now) n lt)) ∙ sym (c.in_ok-add_ranges.ensures.adds n) ∙ c.pass-self-inside.ensures.left.none_new n t)
