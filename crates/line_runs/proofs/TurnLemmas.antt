-- One turn of the loop over lines, by what came and by what became of it.
use Rattle.std.proofs.Common.{◌≡◌, ℕ, ◌+◌, ◌≤◌, ◌^◌, Bool, true, false, List, [], ◌∷◌, ◌++◌, Option, None, Some, length, ◌∙◌, ap, sym, subst, refl, arith, inl, inr, IfSome}
use Rattle.std.proofs.lemmas.Bool.{true≢false}
use Rattle.std.proofs.lemmas.List.{append-nil, append_assoc, length-append}
use Rattle.std.specs.Io.KnownBytes.{Consumes, Appends, IsAtEnd}
use Rattle.std.proofs.KnownBytes.{Consumes-trans, Appends-trans}
use Rattle.line_runs.specs.declared.run.Ended.{Ended}
use Rattle.line_runs.specs.declared.run.Ended.TheVariants as ended
use Rattle.line_runs.specs.declared.tool.TraceWhy.TheVariants.{TooLong}
use Rattle.line_runs.specs.Waiting.{Waiting}
use Rattle.line_runs.specs.Tool.{Grows, StepIs}
use Rattle.line_runs.specs.Write.{IsFrontOf}
use Rattle.line_runs.specs.Lines.{LineStep, Lacks, Ending, BreaksAt, LacksAt, PassesLimit, Going, Over, after, read_by, outcome, output_of, ending_of, written_by, strays}
use Rattle.line_runs.specs.Reading.{Moves, PassesBy, Gives, IsTooLong, IsOpenLine}
use Rattle.line_runs.specs.Run.{TakesKnown, TakesLine, EndsBy, StopsReading, StopsWriting, Reports, ReportsTold, StraysTold, ReadsAs, Reached, Turns, MovesOn, KnowsEnd, ClosesPartly, Closes}
use Rattle.line_runs.proofs.Scans.{front_trans, front_more}
use Rattle.line_runs.proofs.Turning.{reads_grow, reads_map, reads_line, reads_open, reads_long, told_over, told_front, told_end, told_past, appends_same, some_map, ends_by}

-- the count stays within the limit
within_limit : (left remains : Option (List ℕ)) (old new : Waiting) (took : List ℕ) → old.count ≤ 2 ^ 30 → Moves left remains old new took → new.count ≤ 2 ^ 30
within_limit left remains old new [] small m = omega (arith, m.count)
within_limit left remains old new (x ∷ xs) small m = m.limited (omega arith)

-- a turn that goes on took at least one octet
pub line_moves_on : (left remains : Option (List ℕ)) (old new : Waiting) (line : List ℕ) (result : Option Ended)
    → ((took : List ℕ) × Moves left remains old new took × Gives (old.text ++ took) line new) → MovesOn old new result
line_moves_on left remains old new line (Some answer) t = tt
line_moves_on left remains old new line None (took, m, inl e) =
    (omega (arith, m.count, ap length e.parts, length-append old.text took, length-append line (10 ∷ new.text)), λ small. within_limit left remains old new took small m)
line_moves_on left remains old new line None (took, m, inr l) =
    (omega (arith, m.count, ap length l.is, length-append old.text took, ap length l.none, l.some), λ small. within_limit left remains old new took small m)

-- what is known of the source's end
pub line_knows_end : (left remains : Option (List ℕ)) (old new : Waiting) (line : List ℕ) (result : Option Ended) → (result ≡ Some ended.Ok → ⊥)
    → ((took : List ℕ) × Moves left remains old new took × Gives (old.text ++ took) line new) → KnowsEnd left remains old new result
line_knows_end left remains old new line None never (took, m, g) = m.ends
line_knows_end left remains old new line (Some ended.Ok) never t = absurd (never refl)
line_knows_end left remains old new line (Some (ended.BadLine n why)) never t = tt
line_knows_end left remains old new line (Some (ended.Unbuilt n)) never t = tt
line_knows_end left remains old new line (Some ended.ReadFault) never t = tt
line_knows_end left remains old new line (Some ended.WriteFault) never t = tt
line_knows_end left remains old new line (Some ended.NoMemory) never t = tt
line_knows_end left remains old new line (Some ended.InputTooLong) never t = tt

module _ (step : List Bool → List (List ℕ) → List ℕ → LineStep) (closing : List Bool → List (List ℕ) → List ℕ) (left : Option (List ℕ)) where
  -- of a run that strays nothing is said
  pub stray_reports : (given : List Bool) (remains held holds : Option (List ℕ)) (answer : Ended) → StraysTold step given left
      → ReportsTold step closing given left remains held holds answer
  stray_reports given remains held holds answer s =
      some_map left (λ all. (later : List Bool) → strays (outcome (step (given ++ later)) all) ≡ true)
      (λ all. (later : List Bool) → strays (outcome (step (given ++ later)) all) ≡ false
      → Reports (step (given ++ later)) (closing (given ++ later)) all left remains held holds answer)
      (λ all is later stays. absurd (true≢false (sym (is later) ∙ stays))) s

  pub stray_turns : (stands : List (List ℕ) → Type 0) (given : List Bool) (remains held holds : Option (List ℕ)) (w : Waiting) (number : ℕ) (result : Option Ended)
      → StraysTold step given left → Turns step closing stands given left remains held holds w number result
  stray_turns stands given remains held holds w number None s = inl s
  stray_turns stands given remains held holds w number (Some answer) s = stray_reports given remains held holds answer s

  pub stray_grows : (given new : List Bool) → Grows given new → StraysTold step given left → StraysTold step new left
  stray_grows given new (more, is) s =
      some_map left (λ all. (later : List Bool) → strays (outcome (step (given ++ later)) all) ≡ true)
      (λ all. (later : List Bool) → strays (outcome (step (new ++ later)) all) ≡ true)
      (λ all strayed later. subst (λ k. strays (outcome (step k) all) ≡ true) (sym (append_assoc given more later) ∙ ap (λ k. k ++ later) (sym is)) (strayed (more ++ later))) s

  -- a run that is over is reported so
  reports_over : (given : List Bool) (remains held holds : Option (List ℕ)) (took : List ℕ) (w : Waiting) (wrote : List ℕ) (ending : Ending)
      → Consumes left remains took → length took ≤ 2 ^ 30 → (w.ended ≡ true → IsAtEnd remains) → ReadsAs step given took w (λ _. Over wrote ending) → Appends held holds wrote
      → IfSome left (λ all. (later : List Bool) → strays (outcome (step (given ++ later)) all) ≡ false → EndsBy (outcome (step (given ++ later)) all) (closing (given ++ later)) (Some ending) held holds)
  reports_over given remains held holds took w wrote ending c short known r a =
      some_map left (λ all. (later : List Bool) → outcome (step (given ++ later)) all ≡ Over wrote ending)
      (λ all. (later : List Bool) → strays (outcome (step (given ++ later)) all) ≡ false → EndsBy (outcome (step (given ++ later)) all) (closing (given ++ later)) (Some ending) held holds)
      (λ all e later stays. ends_by (outcome (step (given ++ later)) all) (Over wrote ending) (closing (given ++ later)) (Some ending) held holds (e later) refl a)
      (told_over step given left remains took w wrote ending c short known r)

  -- a write that stopped left a front of all that the run writes
  reports_stop : (given : List Bool) (remains held mid holds : Option (List ℕ)) (took : List ℕ) (w : Waiting) (past : List (List ℕ)) (wrote front text : List ℕ)
      → Consumes left remains took → length took ≤ 2 ^ 30 → (w.ended ≡ true → IsAtEnd remains) → ReadsAs step given took w (λ _. Going past [] (wrote ++ text)) → Appends held mid wrote
      → Appends mid holds front → IsFrontOf front text
      → IfSome left (λ all. (later : List Bool) → strays (outcome (step (given ++ later)) all) ≡ false → StopsWriting (outcome (step (given ++ later)) all) (closing (given ++ later)) held holds)
  reports_stop given remains held mid holds took w past wrote front text c short known r a b f =
      some_map left (λ all. (later : List Bool) → IsFrontOf (wrote ++ text) (written_by (closing (given ++ later)) (outcome (step (given ++ later)) all)))
      (λ all. (later : List Bool) → strays (outcome (step (given ++ later)) all) ≡ false → StopsWriting (outcome (step (given ++ later)) all) (closing (given ++ later)) held holds)
      (λ all g later stays. record {
        front = wrote ++ front;
        is_front = front_trans _ _ _ (front_more wrote front text f) (g later);
        wrote = Appends-trans held mid holds wrote front a b;
      })
      (told_front step closing given left remains took w (Going past [] (wrote ++ text)) c short known r)

  -- the same where nothing was written since
  reports_same : (given : List Bool) (remains held mid holds : Option (List ℕ)) (took : List ℕ) (w : Waiting) (past : List (List ℕ)) (wrote : List ℕ)
      → Consumes left remains took → length took ≤ 2 ^ 30 → (w.ended ≡ true → IsAtEnd remains) → ReadsAs step given took w (λ _. Going past [] wrote) → Appends held mid wrote
      → Appends mid holds []
      → IfSome left (λ all. (later : List Bool) → strays (outcome (step (given ++ later)) all) ≡ false → StopsWriting (outcome (step (given ++ later)) all) (closing (given ++ later)) held holds)
  reports_same given remains held mid holds took w past wrote c short known r a b =
      some_map left (λ all. (later : List Bool) → IsFrontOf wrote (written_by (closing (given ++ later)) (outcome (step (given ++ later)) all)))
      (λ all. (later : List Bool) → strays (outcome (step (given ++ later)) all) ≡ false → StopsWriting (outcome (step (given ++ later)) all) (closing (given ++ later)) held holds)
      (λ all g later stays. record { front = wrote; is_front = g later; wrote = appends_same held mid holds wrote a b })
      (told_front step closing given left remains took w (Going past [] wrote) c short known r)

  -- a line came, and the tool took it
  pub turn_line : (stands : List (List ℕ) → Type 0) (before given : List Bool) (mid remains held0 held holds : Option (List ℕ)) (old new : Waiting) (past : List (List ℕ)) (line : List ℕ) (number : ℕ) (result : Option Ended)
      → Grows before given → number ≡ length past + 1 → Reached step before left mid held0 held old past
      → ((took : List ℕ) × Moves mid remains old new took × Gives (old.text ++ took) line new)
      → TakesLine step stands given past line number held holds result
      → Turns step closing stands given left remains held0 holds new number result
  turn_line stands before given mid remains held0 held holds old new past line number result (more, grown) at r (got, m, g) t =
      by_line t
    where
      consumes : Consumes left remains (r.took ++ got)
      consumes = Consumes-trans left mid remains r.took got r.consumes m.consumes

      limit : new.count ≤ 2 ^ 30
      limit = within_limit mid remains old new got r.limited m

      size : length (r.took ++ got) ≡ new.count
      size = omega (arith, length-append r.took got, r.count, m.count)

      known : new.ended ≡ true → IsAtEnd remains
      known e = m.ends r.ends e

      came : ReadsAs step given (r.took ++ got) new (λ later. after (step (given ++ later) past line) past line r.wrote)
      came = reads_line step given mid remains r.took got old new past line r.wrote m g (reads_grow step before more given r.took old (Going past [] r.wrote) grown r.whole)

      by_result : (result : Option Ended) → TakesKnown step stands given past line number held holds result → Turns step closing stands given left remains held0 holds new number result
      by_result None (text, goes, stood, appends) = inr (
        line ∷ past,
        stood,
        omega (arith, at),
        record {
          took = r.took ++ got;
          wrote = r.wrote ++ text;
          consumes = consumes;
          appends = Appends-trans held0 held holds r.wrote text r.appends appends;
          count = sym size;
          limited = limit;
          ends = known;
          whole = reads_map step given (r.took ++ got) new (λ later. after (step (given ++ later) past line) past line r.wrote) (λ _. Going (line ∷ past) [] (r.wrote ++ text)) (λ later. ap (λ s. after s past line r.wrote) (goes later)) came;
        },
      )
      by_result (Some (ended.BadLine n why)) (same, breaks, appends) =
          subst (λ k. ReportsTold step closing given left remains held0 holds (ended.BadLine k why)) (sym (same ∙ at))
          (reports_over given remains held0 holds (r.took ++ got) new r.wrote (BreaksAt (length past + 1) why) consumes (omega (arith, size, limit)) known
          (reads_map step given (r.took ++ got) new (λ later. after (step (given ++ later) past line) past line r.wrote) (λ _. Over r.wrote (BreaksAt (length past + 1) why)) (λ later. ap (λ s. after s past line r.wrote) (breaks later)) came)
          (appends_same held0 held holds r.wrote r.appends appends))
      by_result (Some (ended.Unbuilt n)) t = absurd t
      by_result (Some ended.WriteFault) w =
          reports_stop given remains held0 held holds (r.took ++ got) new (line ∷ past) r.wrote w.front w.text consumes (omega (arith, size, limit)) known
          (reads_map step given (r.took ++ got) new (λ later. after (step (given ++ later) past line) past line r.wrote) (λ _. Going (line ∷ past) [] (r.wrote ++ w.text)) (λ later. ap (λ s. after s past line r.wrote) (w.goes later)) came)
          r.appends w.appends w.is_front
      by_result (Some ended.NoMemory) (inl none) =
          reports_same given mid held0 held holds r.took old past r.wrote r.consumes (omega (arith, r.count, r.limited)) r.ends
          (reads_grow step before more given r.took old (Going past [] r.wrote) grown r.whole) r.appends none
      by_result (Some ended.NoMemory) (inr w) =
          reports_stop given remains held0 held holds (r.took ++ got) new (line ∷ past) r.wrote w.front w.text consumes (omega (arith, size, limit)) known
          (reads_map step given (r.took ++ got) new (λ later. after (step (given ++ later) past line) past line r.wrote) (λ _. Going (line ∷ past) [] (r.wrote ++ w.text)) (λ later. ap (λ s. after s past line r.wrote) (w.goes later)) came)
          r.appends w.appends w.is_front
      by_result (Some ended.Ok) t = absurd t
      by_result (Some ended.ReadFault) t = absurd t
      by_result (Some ended.InputTooLong) t = absurd t

      by_lack : StepIs step given past line Lacks → StraysTold step given left
      by_lack lacks =
          some_map left (λ all. (later : List Bool) → outcome (step (given ++ later)) all ≡ Over r.wrote (LacksAt (length past + 1)))
          (λ all. (later : List Bool) → strays (outcome (step (given ++ later)) all) ≡ true)
          (λ all e later. ap strays (e later))
          (told_over step given left remains (r.took ++ got) new r.wrote (LacksAt (length past + 1)) consumes (omega (arith, size, limit)) known
          (reads_map step given (r.took ++ got) new (λ later. after (step (given ++ later) past line) past line r.wrote) (λ _. Over r.wrote (LacksAt (length past + 1))) (λ later. ap (λ s. after s past line r.wrote) (lacks later)) came))

      by_line : TakesLine step stands given past line number held holds result → Turns step closing stands given left remains held0 holds new number result
      by_line (inl lacks) = stray_turns stands given remains held0 holds new number result (by_lack lacks)
      by_line (inr taken) = by_result result taken

  module _ (given : List Bool) (mid remains held0 held : Option (List ℕ)) (old new : Waiting) (past : List (List ℕ)) (r : Reached step given left mid held0 held old past) where
    -- too many octets came for a line
    pub turn_long : (number : ℕ) → number ≡ length past + 1 → ((took : List ℕ) × Moves mid remains old new took × IsTooLong (old.text ++ took))
        → ReportsTold step closing given left remains held0 held (ended.BadLine number TooLong)
    turn_long number at (got, m, t) = by_whole r.whole
      where
        size : length (r.took ++ got) ≤ 2 ^ 30
        size = omega (arith, length-append r.took got, r.count, m.count, within_limit mid remains old new got r.limited m)

        by_whole : ReadsAs step given r.took old (λ _. Going past [] r.wrote) → ReportsTold step closing given left remains held0 held (ended.BadLine number TooLong)
        by_whole (inl a) =
            subst (λ k. ReportsTold step closing given left remains held0 held (ended.BadLine k TooLong)) (sym at)
            (reports_over given remains held0 held (r.took ++ got) (record { text = t.rest; count = 0; ended = false }) r.wrote (BreaksAt (length past + 1) TooLong)
            (Consumes-trans left mid remains r.took got r.consumes m.consumes) size (λ e. absurd (true≢false (sym e)))
            (inl (reads_long step given r.took got old past r.wrote t a)) r.appends)
        by_whole (inr b) =
            absurd (omega (arith, ap length (sym (ap (λ xs. xs ++ got) b.none ∙ (m.stays b.ended).0) ∙ t.parts), length-append t.front t.rest, t.long))

    -- the input ended
    pub turn_end : (holds : Option (List ℕ)) (result : Ended)
        → ((took : List ℕ) × Moves mid remains old new took × (old.text ++ took ≡ []) × (new.text ≡ []) × (new.ended ≡ true))
        → Closes closing given past held holds result → ReportsTold step closing given left remains held0 holds result
    turn_end holds result (got, m, none, empty, done) t = by_result result t
      where
        was_empty : old.text ≡ []
        was_empty = empty_front old.text got none
          where
            empty_front : (xs ys : List ℕ) → xs ++ ys ≡ [] → xs ≡ []
            empty_front [] ys e = refl
            empty_front (x ∷ xs) ys e = absurd (omega (arith, ap length e))

        nothing : got ≡ []
        nothing = sym (ap (λ xs. xs ++ got) was_empty) ∙ none

        consumes : Consumes left remains r.took
        consumes = subst (λ xs. Consumes left remains xs) (ap (λ xs. r.took ++ xs) nothing ∙ append-nil r.took) (Consumes-trans left mid remains r.took got r.consumes m.consumes)

        size : length r.took ≤ 2 ^ 30
        size = omega (arith, r.count, r.limited)

        at : IsAtEnd remains
        at = m.ends r.ends done

        ended_so : IfSome left (λ all. (later : List Bool) → outcome (step (given ++ later)) all ≡ Going past [] r.wrote)
        ended_so = told_end step given left remains r.took old past r.wrote consumes size at was_empty r.whole

        partly : ClosesPartly closing given past held holds → IfSome left (λ all. (later : List Bool) → strays (outcome (step (given ++ later)) all) ≡ false → StopsWriting (outcome (step (given ++ later)) all) (closing (given ++ later)) held0 holds)
        partly w = some_map left (λ all. (later : List Bool) → outcome (step (given ++ later)) all ≡ Going past [] r.wrote)
            (λ all. (later : List Bool) → strays (outcome (step (given ++ later)) all) ≡ false → StopsWriting (outcome (step (given ++ later)) all) (closing (given ++ later)) held0 holds)
            (λ all e later stays. record {
              front = r.wrote ++ w.front;
              is_front = subst (λ p. IsFrontOf (r.wrote ++ w.front) (written_by (closing (given ++ later)) p)) (sym (e later))
                  (subst (λ xs. IsFrontOf (r.wrote ++ w.front) (r.wrote ++ xs)) (sym (w.closes later)) (front_more r.wrote w.front w.text w.is_front));
              wrote = Appends-trans held0 held holds r.wrote w.front r.appends w.appends;
            }) ended_so

        by_result : (result : Ended) → Closes closing given past held holds result → ReportsTold step closing given left remains held0 holds result
        by_result ended.Ok (text, closes, appends) = some_map left (λ all. (later : List Bool) → outcome (step (given ++ later)) all ≡ Going past [] r.wrote)
            (λ all. (later : List Bool) → strays (outcome (step (given ++ later)) all) ≡ false → EndsBy (outcome (step (given ++ later)) all) (closing (given ++ later)) None held0 holds)
            (λ all e later stays. ends_by (outcome (step (given ++ later)) all) (Going past [] r.wrote) (closing (given ++ later)) None held0 holds (e later) refl
            (subst (λ xs. Appends held0 holds (r.wrote ++ xs)) (sym (closes later)) (Appends-trans held0 held holds r.wrote text r.appends appends)))
            ended_so
        by_result ended.WriteFault w = partly w
        by_result ended.NoMemory (inl none) = reports_same given mid held0 held holds r.took old past r.wrote r.consumes size r.ends r.whole r.appends none
        by_result ended.NoMemory (inr w) = partly w
        by_result (ended.BadLine n why) t = absurd t
        by_result (ended.Unbuilt n) t = absurd t
        by_result ended.ReadFault t = absurd t
        by_result ended.InputTooLong t = absurd t

    -- the source failed
    pub turn_failed : ((took : List ℕ) × Moves mid remains old new took × IsOpenLine (old.text ++ took) × (new.ended ≡ false))
        → ReportsTold step closing given left remains held0 held ended.ReadFault
    turn_failed (got, m, o, open_) = by_whole r.whole
      where
        some_of : (o : Option (List ℕ)) (P : List ℕ → Type 0) → ((x : List ℕ) → P x) → IfSome o P
        some_of None P p = tt
        some_of (Some x) P p = p x

        by_whole : ReadsAs step given r.took old (λ _. Going past [] r.wrote) → ReportsTold step closing given left remains held0 held ended.ReadFault
        by_whole (inl a) = some_of left (λ all. (later : List Bool) → strays (outcome (step (given ++ later)) all) ≡ false → StopsReading (step (given ++ later)) left remains held0 held) (λ all later stays.
            let reads : read_by (step (given ++ later)) (r.took ++ got) ≡ Going past (old.text ++ got) r.wrote = reads_open step given r.took got old past r.wrote o a later in
            record {
              took = r.took ++ got;
              consumes = Consumes-trans left mid remains r.took got r.consumes m.consumes;
              goes = ap ending_of reads;
              wrote = subst (λ p. Appends held0 held (output_of p)) (sym reads) r.appends;
            })
        by_whole (inr b) = absurd (true≢false (sym (m.stays b.ended).1 ∙ open_))

    -- the input passes the limit
    pub turn_past : ((took : List ℕ) × PassesBy mid remains took × IsOpenLine (old.text ++ took) × (old.ended ≡ false) × (old.count + length took ≡ 2 ^ 30))
        → ReportsTold step closing given left remains held0 held ended.InputTooLong
    turn_past (got, p, o, open_, full) = by_whole r.whole
      where
        by_whole : ReadsAs step given r.took old (λ _. Going past [] r.wrote) → ReportsTold step closing given left remains held0 held ended.InputTooLong
        by_whole (inl a) =
            some_map left (λ all. (later : List Bool) → outcome (step (given ++ later)) all ≡ Over r.wrote PassesLimit)
            (λ all. (later : List Bool) → strays (outcome (step (given ++ later)) all) ≡ false → EndsBy (outcome (step (given ++ later)) all) (closing (given ++ later)) (Some PassesLimit) held0 held)
            (λ all e later stays. ends_by (outcome (step (given ++ later)) all) (Over r.wrote PassesLimit) (closing (given ++ later)) (Some PassesLimit) held0 held (e later) refl r.appends)
            (told_past step given left remains (r.took ++ got) p.last (old.text ++ got) past r.wrote
            (subst (λ xs. Consumes left remains xs) (sym (append_assoc r.took got p.last)) (Consumes-trans left mid remains r.took (got ++ p.last) r.consumes p.consumes))
            p.some (omega (arith, length-append r.took got, r.count, full))
            (λ later. reads_open step given r.took got old past r.wrote o a later))
        by_whole (inr b) = absurd (true≢false (sym b.ended ∙ open_))

    -- there was no memory
    pub turn_memory : ReportsTold step closing given left remains held0 held ended.NoMemory
    turn_memory = reports_same given mid held0 held held r.took old past r.wrote r.consumes (omega (arith, r.count, r.limited)) r.ends r.whole r.appends (Rattle.std.proofs.KnownBytes.Appends-nil held)
