-- What the loop over lines keeps.
use Rattle.std.proofs.Common.{◌≡◌, ℕ, ◌+◌, Bool, false, List, [], Option, None, length, refl, sym, ◌∙◌, arith, ◌⊎◌, inl, inr}
use Rattle.std.proofs.KnownBytes.{Consumes-nil, Appends-nil}
use Rattle.std.proofs.lemmas.Bool.{true≢false}
use Rattle.line_runs.specs.Waiting.{Waiting}
use Rattle.line_runs.specs.Lines.{LineStep}
use Rattle.line_runs.specs.Run.{Reached, Turns, ReportsTold, StraysTold}
use Rattle.line_runs.specs.Tool.{Grows}
use Rattle.line_runs.specs.declared.run.Ended.{Ended}
use Rattle.line_runs.proofs.TurnLemmas.{stray_reports, stray_grows}

-- the tool stands for lines that were taken, of which this is the next number
pub record Runs (step : List Bool → List (List ℕ) → List ℕ → LineStep) (given : List Bool) (stands : List (List ℕ) → Type 0)
    (left remains held holds : Option (List ℕ)) (waiting : Waiting) (number : ℕ) : Type 0 where
  pub past : List (List ℕ)
  pub stood : stands past
  pub numbered : number ≡ length past + 1
  pub reached : Reached step given left remains held holds waiting past

-- at first nothing was taken
pub runs_start : (step : List Bool → List (List ℕ) → List ℕ → LineStep) (given : List Bool) (stands : List (List ℕ) → Type 0) (left held : Option (List ℕ)) (waiting : Waiting)
    → stands [] → (waiting.text ≡ []) × (waiting.count ≡ 0) × (waiting.ended ≡ false) → Runs step given stands left left held held waiting 1
runs_start step given stands left held waiting stood fresh = record {
  past = [];
  stood = stood;
  numbered = refl;
  reached = record {
    took = [];
    wrote = [];
    consumes = Consumes-nil left;
    appends = Appends-nil held;
    count = fresh.1;
    limited = omega (arith, fresh.1);
    ends = λ e. absurd (true≢false (sym e ∙ fresh.2));
    whole = inl (record { taken = []; parts = sym fresh.0; reads = λ later. refl });
  };
}

-- the run goes on so, or it has come to a line of which nothing is said
abbrev pub Goes : (step : List Bool → List (List ℕ) → List ℕ → LineStep) (given : List Bool) (stands : List (List ℕ) → Type 0)
    (left remains held holds : Option (List ℕ)) (waiting : Waiting) (number : ℕ) → Type 0
Goes step given stands left remains held holds waiting number = StraysTold step given left ⊎ Runs step given stands left remains held holds waiting number

module _ (step : List Bool → List (List ℕ) → List ℕ → LineStep) (closing : List Bool → List (List ℕ) → List ℕ) (stands : List (List ℕ) → Type 0)
    (given new : List Bool) (left before remains held holds0 holds : Option (List ℕ)) (old : Waiting) (number : ℕ) (grown : Grows given new) where
  -- a turn that ends the run
  pub turn_ends : (answer : Ended)
      → ((past : List (List ℕ)) → stands past → number ≡ length past + 1 → Reached step given left before held holds0 old past → ReportsTold step closing new left remains held holds answer)
      → Goes step given stands left before held holds0 old number → ReportsTold step closing new left remains held holds answer
  turn_ends answer turns (inl s) = stray_reports step closing left new remains held holds answer (stray_grows step closing left given new grown s)
  turn_ends answer turns (inr r) = turns r.past r.stood r.numbered r.reached

  module _ (new_stands : List (List ℕ) → Type 0) (waiting : Waiting) where
    turned : Turns step closing new_stands new left remains held holds waiting number None → Goes step new new_stands left remains held holds waiting (number + 1)
    turned (inl s) = inl s
    turned (inr t) = inr (record { past = t.0; stood = t.1; numbered = omega (arith, t.2); reached = t.3 })

    -- a turn that goes on
    pub turn_goes : ((past : List (List ℕ)) → stands past → number ≡ length past + 1 → Reached step given left before held holds0 old past
        → Turns step closing new_stands new left remains held holds waiting number None)
        → Goes step given stands left before held holds0 old number → Goes step new new_stands left remains held holds waiting (number + 1)
    turn_goes turns (inl s) = inl (stray_grows step closing left given new grown s)
    turn_goes turns (inr r) = turned (turns r.past r.stood r.numbered r.reached)
