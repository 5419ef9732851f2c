-- How far octets bring a run: lines, long lines, and what was written before.
use Rattle.std.proofs.Common.{◌≡◌, ℕ, ◌+◌, ◌-◌, ◌<◌, ◌≤◌, ◌^◌, eqb, leb, ltb, false, List, [], ◌∷◌, ◌++◌, length, take, ◌∙◌, ap, sym, subst, refl, arith, inl, inr}
use Rattle.std.specs.List.{fold, list_any}
use Rattle.std.proofs.lemmas.Bool.{or_parts, cond-true, cond-false, cond_both, lt-ltb, le-ltb, le-leb, lt-leb, cases_lt}
use Rattle.std.proofs.lemmas.List.{append-nil, append_assoc, length-append}
use Rattle.std.proofs.lemmas.List.Sums.{fold-append}
use Rattle.std.proofs.Math.Seq.{take-append-add}
use Rattle.line_runs.specs.declared.tool.TraceWhy.TheVariants.{TooLong}
use Rattle.line_runs.specs.Breaks.{IsUnbroken}
use Rattle.line_runs.specs.Write.{IsFrontOf}
use Rattle.line_runs.specs.Lines.{LineStep, Goes, Breaks, Lacks, BreaksAt, Progress, Going, Over, after, longer, next_octet, read_by, at_end, at_limit, longest_input, outcome, output_of, written_by}

pub longest_input_is : longest_input ≡ 2 ^ 30
unfolding longest_input
longest_input_is = refl

pub front_refl : (xs : List ℕ) → IsFrontOf xs xs
front_refl xs = ([], sym (append-nil xs))

pub front_trans : (xs ys zs : List ℕ) → IsFrontOf xs ys → IsFrontOf ys zs → IsFrontOf xs zs
front_trans xs ys zs a b = (a.0 ++ b.0, b.1 ∙ ap (λ w. w ++ b.0) a.1 ∙ append_assoc xs a.0 b.0)

pub front_more : (xs front text : List ℕ) → IsFrontOf front text → IsFrontOf (xs ++ front) (xs ++ text)
front_more xs front text a = (a.0, ap (λ w. xs ++ w) a.1 ∙ sym (append_assoc xs front a.0))

module _ (step : List (List ℕ) → List ℕ → LineStep) where
  -- after the end nothing changes
  pub scan_over : (output : List ℕ) (ending : _) (xs : List ℕ) → fold (next_octet step) (Over output ending) xs ≡ Over output ending
  scan_over output ending [] = refl
  scan_over output ending (x ∷ xs) = scan_over output ending xs

  -- an octet that is no LF
  inside_line : (past : List (List ℕ)) (text output : List ℕ) (x : ℕ) → eqb x 10 ≡ false → next_octet step (Going past text output) x ≡ longer past text output x
  inside_line past text output x h = cond-false (eqb x 10) (after (step past text) past text output) (longer past text output x) h

  longer_goes : (past : List (List ℕ)) (text output : List ℕ) (x : ℕ) → length text < 131200 → longer past text output x ≡ Going past (text ++ x ∷ []) output
  longer_goes past text output x h = cond-true (ltb (length text) 131200) (Going past (text ++ x ∷ []) output) (Over output (BreaksAt (length past + 1) TooLong)) (lt-ltb (length text) 131200 h)

  longer_ends : (past : List (List ℕ)) (text output : List ℕ) (x : ℕ) → 131200 ≤ length text → longer past text output x ≡ Over output (BreaksAt (length past + 1) TooLong)
  longer_ends past text output x h = cond-false (ltb (length text) 131200) (Going past (text ++ x ∷ []) output) (Over output (BreaksAt (length past + 1) TooLong)) (le-ltb (length text) 131200 h)

  -- octets without an LF join the line that comes
  pub scan_unbroken : (past : List (List ℕ)) (text output xs : List ℕ) → IsUnbroken xs → length text + length xs ≤ 131200
      → fold (next_octet step) (Going past text output) xs ≡ Going past (text ++ xs) output
  scan_unbroken past text output [] h short = ap (λ t. Going past t output) (sym (append-nil text))
  scan_unbroken past text output (x ∷ xs) h short =
      let parts = or_parts (eqb x 10) (list_any (λ octet. eqb octet 10) xs) h in
      let one : next_octet step (Going past text output) x ≡ Going past (text ++ x ∷ []) output =
      inside_line past text output x parts.0 ∙ longer_goes past text output x (omega arith) in
      ap (λ p. fold (next_octet step) p xs) one
      ∙ scan_unbroken past (text ++ x ∷ []) output xs parts.1 (omega (arith, length-append text (x ∷ [])))
      ∙ ap (λ t. Going past t output) (append_assoc text (x ∷ []) xs)

  -- too many of them end the run
  pub scan_long : (past : List (List ℕ)) (text output xs : List ℕ) → IsUnbroken xs → length text ≤ 131200 → 131200 < length text + length xs
      → fold (next_octet step) (Going past text output) xs ≡ Over output (BreaksAt (length past + 1) TooLong)
  scan_long past text output [] h short long = absurd (omega arith)
  scan_long past text output (x ∷ xs) h short long =
      let parts = or_parts (eqb x 10) (list_any (λ octet. eqb octet 10) xs) h in
      elim (cases_lt (length text) 131200) [
        | inl lt ↦ ap (λ p. fold (next_octet step) p xs) (inside_line past text output x parts.0 ∙ longer_goes past text output x lt)
            ∙ scan_long past (text ++ x ∷ []) output xs parts.1 (omega (arith, length-append text (x ∷ []))) (omega (arith, length-append text (x ∷ [])))
        | inr ge ↦ ap (λ p. fold (next_octet step) p xs) (inside_line past text output x parts.0 ∙ longer_ends past text output x ge) ∙ scan_over output _ xs
      ]

  -- a line and its LF are one step of the tool
  pub scan_line : (past : List (List ℕ)) (output line : List ℕ) → IsUnbroken line → length line ≤ 131200
      → fold (next_octet step) (Going past [] output) (line ++ 10 ∷ []) ≡ after (step past line) past line output
  scan_line past output line h short =
      fold-append (next_octet step) (Going past [] output) line (10 ∷ [])
      ∙ ap (λ p. fold (next_octet step) p (10 ∷ [])) (scan_unbroken past [] output line h (omega arith))

  front_after : (s : LineStep) (past : List (List ℕ)) (line output : List ℕ) → IsFrontOf output (output_of (after s past line output))
  front_after (Goes text) past line output = (text, refl)
  front_after (Breaks why) past line output = front_refl output
  front_after Lacks past line output = front_refl output

  front_octet : (p : Progress) (x : ℕ) → IsFrontOf (output_of p) (output_of (next_octet step p x))
  front_octet (Over output ending) x = front_refl output
  front_octet (Going past text output) x =
      cond_both (eqb x 10) (after (step past text) past text output) (longer past text output x) (λ p. IsFrontOf output (output_of p))
      (λ _. front_after (step past text) past text output)
      (λ _. cond_both (ltb (length text) 131200) (Going past (text ++ x ∷ []) output) (Over output (BreaksAt (length past + 1) TooLong)) (λ p. IsFrontOf output (output_of p))
      (λ _. front_refl output) (λ _. front_refl output))

  -- what was written stays in front
  pub front_scan : (p : Progress) (xs : List ℕ) → IsFrontOf (output_of p) (output_of (fold (next_octet step) p xs))
  front_scan p [] = front_refl (output_of p)
  front_scan p (x ∷ xs) = front_trans _ _ _ (front_octet p x) (front_scan (next_octet step p x) xs)

  pub front_end : (p : Progress) → IsFrontOf (output_of p) (output_of (at_end step p))
  front_end (Over output ending) = front_refl output
  front_end (Going past [] output) = front_refl output
  front_end (Going past (x ∷ xs) output) = front_after (step past (x ∷ xs)) past (x ∷ xs) output

  pub front_limit : (p : Progress) → IsFrontOf (output_of p) (output_of (at_limit p))
  front_limit (Over output ending) = front_refl output
  front_limit (Going past text output) = front_refl output

  pub front_written : (closing : List (List ℕ) → List ℕ) (p : Progress) → IsFrontOf (output_of p) (written_by closing p)
  front_written closing (Over output ending) = front_refl output
  front_written closing (Going past text output) = (closing past, refl)

  -- what holds of a run that goes on behind a front of the input holds of its outcome
  pub outcome_by : (all taken rest : List ℕ) → all ≡ taken ++ rest → length taken ≤ 2 ^ 30 → (P : Progress → Type 0)
      → P (at_end step (fold (next_octet step) (read_by step taken) rest))
      → ((more : List ℕ) → P (at_limit (fold (next_octet step) (read_by step taken) more)))
      → P (outcome step all)
  unfolding outcome
  outcome_by all taken rest is short P whole cut =
      let more : List ℕ = take (longest_input - length taken) rest in
      let front : take longest_input all ≡ taken ++ more =
      ap (λ xs. take longest_input xs) is ∙ ap (λ n. take n (taken ++ rest)) (omega (arith, longest_input_is)) ∙ take-append-add taken rest (longest_input - length taken) in
      cond_both (leb (length all) longest_input) (at_end step (read_by step all)) (at_limit (read_by step (take longest_input all))) P
      (λ _. subst (λ p. P (at_end step p)) (sym (ap (read_by step) is ∙ fold-append (next_octet step) (Going [] [] []) taken rest)) whole)
      (λ _. subst (λ p. P (at_limit p)) (sym (ap (read_by step) front ∙ fold-append (next_octet step) (Going [] [] []) taken more)) (cut more))

  -- a run that is over stays so
  pub outcome_over : (all taken rest output : List ℕ) (ending : _) → all ≡ taken ++ rest → length taken ≤ 2 ^ 30 → read_by step taken ≡ Over output ending
      → outcome step all ≡ Over output ending
  outcome_over all taken rest output ending is short over =
      outcome_by all taken rest is short (λ p. p ≡ Over output ending)
      (ap (λ p. at_end step (fold (next_octet step) p rest)) over ∙ ap (at_end step) (scan_over output ending rest))
      (λ more. ap (λ p. at_limit (fold (next_octet step) p more)) over ∙ ap at_limit (scan_over output ending more))

  -- what was written behind a front of the input is a front of all that the run writes
  pub outcome_front : (closing : List (List ℕ) → List ℕ) (all taken rest : List ℕ) → all ≡ taken ++ rest → length taken ≤ 2 ^ 30
      → IsFrontOf (output_of (read_by step taken)) (written_by closing (outcome step all))
  outcome_front closing all taken rest is short =
      let start : Progress = read_by step taken in
      outcome_by all taken rest is short (λ p. IsFrontOf (output_of start) (written_by closing p))
      (front_trans _ _ _ (front_scan start rest) (front_trans _ _ _ (front_end (fold (next_octet step) start rest)) (front_written closing (at_end step (fold (next_octet step) start rest)))))
      (λ more. front_trans _ _ _ (front_scan start more) (front_trans _ _ _ (front_limit (fold (next_octet step) start more)) (front_written closing (at_limit (fold (next_octet step) start more)))))

  -- an input within the limit is read to its end
  pub outcome_whole : (all : List ℕ) → length all ≤ 2 ^ 30 → outcome step all ≡ at_end step (read_by step all)
  unfolding outcome
  outcome_whole all h = cond-true (leb (length all) longest_input) (at_end step (read_by step all)) (at_limit (read_by step (take longest_input all))) (le-leb (length all) longest_input (omega (arith, longest_input_is)))

  -- a longer one up to the limit
  pub outcome_past : (all taken rest : List ℕ) → all ≡ taken ++ rest → length taken ≡ 2 ^ 30 → 0 < length rest → outcome step all ≡ at_limit (read_by step taken)
  unfolding outcome
  outcome_past all taken rest is full some =
      let long : longest_input < length all = omega (arith, longest_input_is, ap length is, length-append taken rest) in
      cond-false (leb (length all) longest_input) (at_end step (read_by step all)) (at_limit (read_by step (take longest_input all))) (lt-leb (length all) longest_input long)
      ∙ ap (λ xs. at_limit (read_by step xs)) (ap (λ xs. take longest_input xs) is ∙ ap (λ n. take n (taken ++ rest)) (omega (arith, longest_input_is)) ∙ take-append-add taken rest 0 ∙ append-nil taken)
