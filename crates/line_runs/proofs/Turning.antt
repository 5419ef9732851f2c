-- What each turn of the loop over lines makes of what was read and written before it.
use Rattle.std.proofs.Common.{◌≡◌, ℕ, ◌+◌, ◌<◌, ◌≤◌, ◌^◌, Bool, true, List, [], ◌∷◌, ◌++◌, Option, None, Some, length, ◌∙◌, ap, sym, subst, refl, arith, inl, inr, IfSome}
use Rattle.std.specs.List.{fold}
use Rattle.std.proofs.lemmas.List.{append-nil, append_assoc, length-append}
use Rattle.std.proofs.lemmas.List.Sums.{fold-append}
use Rattle.std.specs.Io.KnownBytes.{Consumes, Appends, IsAtEnd}
use Rattle.std.proofs.KnownBytes.{Appends-trans}
use Rattle.line_runs.specs.declared.tool.TraceWhy.TheVariants.{TooLong}
use Rattle.line_runs.specs.Waiting.{Waiting}
use Rattle.line_runs.specs.Write.{IsFrontOf}
use Rattle.line_runs.specs.Lines.{LineStep, Ending, BreaksAt, PassesLimit, Progress, Going, Over, after, next_octet, read_by, at_end, at_limit, outcome, output_of, ending_of, written_by}
use Rattle.line_runs.specs.Reading.{Moves, Gives, IsTooLong, IsOpenLine}
use Rattle.line_runs.specs.Run.{EndsBy, AfterLines, ReadsAs}
use Rattle.line_runs.proofs.Scans.{scan_line, scan_unbroken, scan_long, front_written, outcome_over, outcome_front, outcome_whole, outcome_past}

-- a run's own store and steps
module _ (step : List Bool → List (List ℕ) → List ℕ → LineStep) where
  -- what holds whatever the store answers later holds after it answered more
  pub reads_grow : (given more : List Bool) (new : List Bool) (took : List ℕ) (w : Waiting) (p : Progress) → new ≡ given ++ more
      → ReadsAs step given took w (λ _. p) → ReadsAs step new took w (λ _. p)
  reads_grow given more new took w p is (inl a) = inl (record {
    taken = a.taken;
    parts = a.parts;
    reads = λ later. subst (λ k. read_by (step k) a.taken ≡ p) (sym (append_assoc given more later) ∙ ap (λ k. k ++ later) (sym is)) (a.reads (more ++ later));
  })
  reads_grow given more new took w p is (inr a) = inr (record {
    none = a.none;
    ended = a.ended;
    reads = λ later. subst (λ k. at_end (step k) (read_by (step k) took) ≡ p) (sym (append_assoc given more later) ∙ ap (λ k. k ++ later) (sym is)) (a.reads (more ++ later));
  })

  pub reads_map : (given : List Bool) (took : List ℕ) (w : Waiting) (p q : List Bool → Progress) → ((later : List Bool) → p later ≡ q later)
      → ReadsAs step given took w p → ReadsAs step given took w q
  reads_map given took w p q e (inl a) = inl (record { taken = a.taken; parts = a.parts; reads = λ later. a.reads later ∙ e later })
  reads_map given took w p q e (inr a) = inr (record { none = a.none; ended = a.ended; reads = λ later. a.reads later ∙ e later })

  last_line : (given : List Bool) (past : List (List ℕ)) (line wrote : List ℕ) → 0 < length line → at_end (step given) (Going past line wrote) ≡ after (step given past line) past line wrote
  last_line given past [] wrote some = absurd (omega arith)
  last_line given past (x ∷ xs) wrote some = refl

  -- a line comes
  pub reads_line : (given : List Bool) (mid remains : Option (List ℕ)) (took got : List ℕ) (old new : Waiting) (past : List (List ℕ)) (line wrote : List ℕ)
      → Moves mid remains old new got → Gives (old.text ++ got) line new → ReadsAs step given took old (λ _. Going past [] wrote)
      → ReadsAs step given (took ++ got) new (λ later. after (step (given ++ later) past line) past line wrote)
  reads_line given mid remains took got old new past line wrote m (inl e) (inl a) = inl (record {
    taken = a.taken ++ (line ++ 10 ∷ []);
    parts = ap (λ xs. xs ++ got) a.parts ∙ append_assoc a.taken old.text got ∙ ap (λ xs. a.taken ++ xs) (e.parts ∙ sym (append_assoc line (10 ∷ []) new.text))
        ∙ sym (append_assoc a.taken (line ++ 10 ∷ []) new.text);
    reads = λ later. fold-append (next_octet (step (given ++ later))) (Going [] [] []) a.taken (line ++ 10 ∷ [])
        ∙ ap (λ p. fold (next_octet (step (given ++ later))) p (line ++ 10 ∷ [])) (a.reads later)
        ∙ scan_line (step (given ++ later)) past wrote line e.unbroken e.short;
  })
  reads_line given mid remains took got old new past line wrote m (inr l) (inl a) = inr (record {
    none = l.none;
    ended = l.ended;
    reads = λ later.
        let all : took ++ got ≡ a.taken ++ line = ap (λ xs. xs ++ got) a.parts ∙ append_assoc a.taken old.text got ∙ ap (λ xs. a.taken ++ xs) l.is in
        ap (λ xs. at_end (step (given ++ later)) (read_by (step (given ++ later)) xs)) all
        ∙ ap (at_end (step (given ++ later))) (fold-append (next_octet (step (given ++ later))) (Going [] [] []) a.taken line
        ∙ ap (λ p. fold (next_octet (step (given ++ later))) p line) (a.reads later)
        ∙ scan_unbroken (step (given ++ later)) past [] wrote line l.unbroken (omega (arith, l.short)))
        ∙ last_line (given ++ later) past line wrote l.some;
  })
  reads_line given mid remains took got old new past line wrote m (inl e) (inr b) =
      absurd (omega (arith, ap length (sym (ap (λ xs. xs ++ got) b.none ∙ (m.stays b.ended).0) ∙ e.parts), length-append line (10 ∷ new.text)))
  reads_line given mid remains took got old new past line wrote m (inr l) (inr b) =
      absurd (omega (arith, ap length (sym (ap (λ xs. xs ++ got) b.none ∙ (m.stays b.ended).0) ∙ l.is), l.some))

  -- octets of an open line come
  pub reads_open : (given : List Bool) (took got : List ℕ) (old : Waiting) (past : List (List ℕ)) (wrote : List ℕ) → IsOpenLine (old.text ++ got)
      → AfterLines step given took old.text (λ _. Going past [] wrote) → (later : List Bool) → read_by (step (given ++ later)) (took ++ got) ≡ Going past (old.text ++ got) wrote
  reads_open given took got old past wrote o a later =
      ap (read_by (step (given ++ later))) (ap (λ xs. xs ++ got) a.parts ∙ append_assoc a.taken old.text got)
      ∙ fold-append (next_octet (step (given ++ later))) (Going [] [] []) a.taken (old.text ++ got)
      ∙ ap (λ p. fold (next_octet (step (given ++ later))) p (old.text ++ got)) (a.reads later)
      ∙ scan_unbroken (step (given ++ later)) past [] wrote (old.text ++ got) o.unbroken (omega (arith, o.short))

  -- too many octets come
  pub reads_long : (given : List Bool) (took got : List ℕ) (old : Waiting) (past : List (List ℕ)) (wrote : List ℕ) (t : IsTooLong (old.text ++ got))
      → AfterLines step given took old.text (λ _. Going past [] wrote) → AfterLines step given (took ++ got) t.rest (λ _. Over wrote (BreaksAt (length past + 1) TooLong))
  reads_long given took got old past wrote t a = record {
    taken = a.taken ++ t.front;
    parts = ap (λ xs. xs ++ got) a.parts ∙ append_assoc a.taken old.text got ∙ ap (λ xs. a.taken ++ xs) t.parts ∙ sym (append_assoc a.taken t.front t.rest);
    reads = λ later. fold-append (next_octet (step (given ++ later))) (Going [] [] []) a.taken t.front
        ∙ ap (λ p. fold (next_octet (step (given ++ later))) p t.front) (a.reads later)
        ∙ scan_long (step (given ++ later)) past [] wrote t.front t.unbroken (omega arith) (omega (arith, t.long));
  }

  -- where the source tells its octets, a run that is over is the outcome
  pub told_over : (given : List Bool) (left remains : Option (List ℕ)) (took : List ℕ) (w : Waiting) (output : List ℕ) (ending : Ending)
      → Consumes left remains took → length took ≤ 2 ^ 30 → (w.ended ≡ true → IsAtEnd remains) → ReadsAs step given took w (λ _. Over output ending)
      → IfSome left (λ all. (later : List Bool) → outcome (step (given ++ later)) all ≡ Over output ending)
  told_over given None remains took w output ending c short known r = tt
  told_over given (Some all) None took w output ending c short known r = absurd c
  told_over given (Some all) (Some rest) took w output ending c short known (inl a) = λ later.
      outcome_over (step (given ++ later)) all a.taken (w.text ++ rest) output ending (c ∙ ap (λ xs. xs ++ rest) a.parts ∙ append_assoc a.taken w.text rest)
      (omega (arith, ap length a.parts, length-append a.taken w.text)) (a.reads later)
  told_over given (Some all) (Some rest) took w output ending c short known (inr a) = λ later.
      let whole : all ≡ took = c ∙ ap (λ xs. took ++ xs) (known a.ended) ∙ append-nil took in
      outcome_whole (step (given ++ later)) all (omega (arith, ap length whole)) ∙ ap (λ xs. at_end (step (given ++ later)) (read_by (step (given ++ later)) xs)) whole ∙ a.reads later

  -- what was written so far is a front of all that the run writes
  pub told_front : (closing : List Bool → List (List ℕ) → List ℕ) (given : List Bool) (left remains : Option (List ℕ)) (took : List ℕ) (w : Waiting) (p : Progress)
      → Consumes left remains took → length took ≤ 2 ^ 30 → (w.ended ≡ true → IsAtEnd remains) → ReadsAs step given took w (λ _. p)
      → IfSome left (λ all. (later : List Bool) → IsFrontOf (output_of p) (written_by (closing (given ++ later)) (outcome (step (given ++ later)) all)))
  told_front closing given None remains took w p c short known r = tt
  told_front closing given (Some all) None took w p c short known r = absurd c
  told_front closing given (Some all) (Some rest) took w p c short known (inl a) = λ later.
      subst (λ q. IsFrontOf (output_of q) (written_by (closing (given ++ later)) (outcome (step (given ++ later)) all))) (a.reads later)
      (outcome_front (step (given ++ later)) (closing (given ++ later)) all a.taken (w.text ++ rest) (c ∙ ap (λ xs. xs ++ rest) a.parts ∙ append_assoc a.taken w.text rest)
      (omega (arith, ap length a.parts, length-append a.taken w.text)))
  told_front closing given (Some all) (Some rest) took w p c short known (inr a) = λ later.
      let whole : all ≡ took = c ∙ ap (λ xs. took ++ xs) (known a.ended) ∙ append-nil took in
      subst (λ q. IsFrontOf (output_of p) (written_by (closing (given ++ later)) q))
      (sym (outcome_whole (step (given ++ later)) all (omega (arith, ap length whole)) ∙ ap (λ xs. at_end (step (given ++ later)) (read_by (step (given ++ later)) xs)) whole ∙ a.reads later))
      (front_written (step (given ++ later)) (closing (given ++ later)) p)

  -- where the input ended, a run that goes on is the outcome
  pub told_end : (given : List Bool) (left remains : Option (List ℕ)) (took : List ℕ) (w : Waiting) (past : List (List ℕ)) (wrote : List ℕ)
      → Consumes left remains took → length took ≤ 2 ^ 30 → IsAtEnd remains → w.text ≡ [] → ReadsAs step given took w (λ _. Going past [] wrote)
      → IfSome left (λ all. (later : List Bool) → outcome (step (given ++ later)) all ≡ Going past [] wrote)
  told_end given None remains took w past wrote c short at none r = tt
  told_end given (Some all) None took w past wrote c short at none r = absurd c
  told_end given (Some all) (Some rest) took w past wrote c short at none (inl a) = λ later.
      let whole : all ≡ took = c ∙ ap (λ xs. took ++ xs) at ∙ append-nil took in
      outcome_whole (step (given ++ later)) all (omega (arith, ap length whole))
      ∙ ap (λ xs. at_end (step (given ++ later)) (read_by (step (given ++ later)) xs)) (whole ∙ a.parts ∙ ap (λ xs. a.taken ++ xs) none ∙ append-nil a.taken)
      ∙ ap (at_end (step (given ++ later))) (a.reads later)
  told_end given (Some all) (Some rest) took w past wrote c short at none (inr a) = λ later.
      let whole : all ≡ took = c ∙ ap (λ xs. took ++ xs) at ∙ append-nil took in
      outcome_whole (step (given ++ later)) all (omega (arith, ap length whole)) ∙ ap (λ xs. at_end (step (given ++ later)) (read_by (step (given ++ later)) xs)) whole ∙ a.reads later

  -- where the input passes the limit, the outcome says so
  pub told_past : (given : List Bool) (left remains : Option (List ℕ)) (took last text : List ℕ) (past : List (List ℕ)) (wrote : List ℕ)
      → Consumes left remains (took ++ last) → 0 < length last → length took ≡ 2 ^ 30 → ((later : List Bool) → read_by (step (given ++ later)) took ≡ Going past text wrote)
      → IfSome left (λ all. (later : List Bool) → outcome (step (given ++ later)) all ≡ Over wrote PassesLimit)
  told_past given None remains took last text past wrote c some full reads = tt
  told_past given (Some all) None took last text past wrote c some full reads = absurd c
  told_past given (Some all) (Some rest) took last text past wrote c some full reads = λ later.
      outcome_past (step (given ++ later)) all took (last ++ rest) (c ∙ append_assoc took last rest) full (omega (arith, length-append last rest)) ∙ ap at_limit (reads later)

-- nothing more was written
pub appends_same : (a b c : Option (List ℕ)) (xs : List ℕ) → Appends a b xs → Appends b c [] → Appends a c xs
appends_same a b c xs p q = subst (λ ys. Appends a c ys) (append-nil xs) (Appends-trans a b c xs [] p q)

pub some_map : (o : Option (List ℕ)) (P Q : List ℕ → Type 0) → ((x : List ℕ) → P x → Q x) → IfSome o P → IfSome o Q
some_map None P Q f h = tt
some_map (Some x) P Q f h = f x h

-- a run whose outcome is known ended by it
pub ends_by : (run : Progress) (p : Progress) (closing : List (List ℕ) → List ℕ) (ending : Option Ending) (held holds : Option (List ℕ)) → run ≡ p → ending_of p ≡ ending
    → Appends held holds (written_by closing p) → EndsBy run closing ending held holds
ends_by run p closing ending held holds is e w = record {
  ending_is = ap ending_of is ∙ e;
  wrote = subst (λ q. Appends held holds (written_by closing q)) (sym is) w;
}
