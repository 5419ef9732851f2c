-- What the searched octets and the first LF behind them make of the line at hand.
use Rattle.std.proofs.Common.{◌≡◌, ℕ, ◌+◌, ◌-◌, ◌<◌, ◌≤◌, List, ◌∷◌, ◌++◌, length, take, drop, ◌∙◌, ap, sym, subst, arith}
use Rattle.std.proofs.lemmas.List.{take-append-drop, drop-drop, take_all, length-take-le, append_assoc}
use Rattle.std.proofs.Math.Seq.{take-add}
use Rattle.line_runs.specs.Breaks.{IsUnbroken, BreaksAtFirst}
use Rattle.line_runs.specs.Reading.{EndsLine, IsTooLong, IsOpenLine}
use Rattle.line_runs.proofs.BreakLemmas.{unbroken-append, unbroken_front}

-- the octets up to the first LF
pub front_at : (text : List ℕ) (searched more : ℕ) → IsUnbroken (take searched text) → IsUnbroken (take more (drop searched text)) → IsUnbroken (take (searched + more) text)
front_at text searched more clean first =
    subst IsUnbroken (sym (take-add searched more text)) (unbroken-append (take searched text) (take more (drop searched text)) clean first)

-- they make the line, and the LF ends it
pub line_at : (text line rest : List ℕ) (searched more : ℕ) → IsUnbroken (take searched text) → BreaksAtFirst (drop searched text) more → searched + more ≤ 131200
    → searched + more ≤ length text → line ≡ take (searched + more) text → rest ≡ drop (searched + more + 1) text → EndsLine text line rest
line_at text line rest searched more clean first limit within line_is rest_is =
    let front : take (searched + more) text ≡ take searched text ++ take more (drop searched text) = take-add searched more text in
    let past : drop (more + 1) (drop searched text) ≡ rest = drop-drop (more + 1) searched text ∙ ap (λ n. drop n text) (omega arith) ∙ sym rest_is in
    record {
      unbroken = subst IsUnbroken (sym line_is) (front_at text searched more clean first.before);
      short = omega (arith, ap length line_is, length-take-le (searched + more) text within);
      parts = sym (take-append-drop searched text) ∙ ap (λ xs. take searched text ++ xs) (first.parts ∙ ap (λ xs. take more (drop searched text) ++ 10 ∷ xs) past)
          ∙ sym (append_assoc (take searched text) (take more (drop searched text)) (10 ∷ rest))
          ∙ ap (λ xs. xs ++ 10 ∷ rest) (sym front ∙ sym line_is);
    }

-- unbroken octets beyond the longest line begin with too many
pub too_long_by : (text : List ℕ) (n limit : ℕ) → IsUnbroken (take n text) → limit ≤ n → n ≤ length text → limit ≡ 131201 → IsTooLong text
too_long_by text n limit clean long within is =
    let parts : take n text ≡ take limit text ++ take (n - limit) (drop limit text) = ap (λ k. take k text) (omega arith) ∙ take-add limit (n - limit) text in
    record {
      front = take limit text;
      rest = drop limit text;
      unbroken = unbroken_front (take limit text) (take (n - limit) (drop limit text)) (subst IsUnbroken parts clean);
      long = length-take-le limit text (omega arith) ∙ is;
      parts = sym (take-append-drop limit text);
    }

-- the longest line and one octet more
unfoldable one_too_many : ℕ
one_too_many = 131201

one_too_many_is : one_too_many ≡ 131201
unfolding one_too_many
one_too_many_is = Rattle.std.proofs.Common.refl

pub too_long : (text : List ℕ) (n : ℕ) → IsUnbroken (take n text) → 131201 ≤ n → n ≤ length text → IsTooLong text
too_long text n clean long within = too_long_by text n one_too_many clean (omega (arith, one_too_many_is)) within one_too_many_is

-- searched octets and unbroken ones behind them make an open line
pub open_line : (text : List ℕ) (searched : ℕ) → IsUnbroken (take searched text) → IsUnbroken (drop searched text) → length text ≤ 131200 → IsOpenLine text
open_line text searched clean more short = record {
  unbroken = subst IsUnbroken (take-append-drop searched text) (unbroken-append (take searched text) (drop searched text) clean more);
  short = short;
}

-- the same as one unbroken text
pub whole_unbroken : (text : List ℕ) (searched : ℕ) → IsUnbroken (take searched text) → IsUnbroken (drop searched text) → IsUnbroken (take (length text) text)
whole_unbroken text searched clean more =
    subst IsUnbroken (take-append-drop searched text ∙ sym (take_all (length text) text (omega arith))) (unbroken-append (take searched text) (drop searched text) clean more)
