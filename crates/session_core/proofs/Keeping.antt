-- What a sender keeps after a confirmed.
use Rattle.std.proofs.Common.{◌≡◌, ℕ, ◌+◌, ◌-◌, ◌≤◌, min, max, nat_lt, Bool, true, false, if◌then◌else◌, List, [], ◌∷◌, length, drop, ap, ◌∙◌, arith}
use Rattle.std.proofs.lemmas.List.{drop-drop, length-drop}
use Rattle.history_model.specs.Life.{Heard, Confirmed, past_named, replies, sent, base}
use Rattle.session_core.specs.Sent.{Sending, Sends, sent_by, has}

one_low : (limit upper : ℕ) (b : Bool) → (if b then min (upper + 1) limit else 0) ≤ limit
one_low limit upper true = omega arith
one_low limit upper false = omega arith

-- what runs name below a limit isn't past it
pub named_low : (limit : ℕ) (runs : List (ℕ × ℕ)) → past_named limit runs ≤ limit
named_low limit [] = omega arith
named_low limit (run ∷ runs) = omega (arith, one_low limit run.1 (nat_lt run.0 limit), named_low limit runs)

pub confirmed_is : (s t : Sending) (h : List Heard) (runs : List (ℕ × ℕ)) → Sends s h → t.base ≡ max (past_named (sent_by s) runs) s.base
    → t.kept ≡ drop (t.base - s.base) s.kept → t.uncompleted ≡ s.uncompleted → Sends t (Confirmed runs ∷ h)
confirmed_is s t h runs g b k u = record {
  first_is = first;
  sent_is = ap (λ us. t.base + length us) k ∙ omega (arith, length-drop (t.base - s.base) s.kept, b, named_low (sent_by s) runs) ∙ g.sent_is;
  kept_is = k ∙ ap (drop (t.base - s.base)) g.kept_is ∙ drop-drop (t.base - s.base) (base h) (replies h) ∙ ap (λ n. drop n (replies h)) past ∙ ap (λ n. drop n (replies h)) first;
  uncompleted_is = λ n. ap (λ ns. has ns n) u ∙ g.uncompleted_is n;
}
  where
    first : t.base ≡ max (past_named (sent h) runs) (base h)
    first = b ∙ ap (λ n. max (past_named n runs) s.base) g.sent_is ∙ ap (max (past_named (sent h) runs)) g.first_is

    past : base h + (t.base - s.base) ≡ t.base
    past = omega (arith, b, g.first_is)
