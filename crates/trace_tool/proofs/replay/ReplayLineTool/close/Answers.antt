-- The code's names of the connections are those of the definitions.
use Rattle.std.proofs.Common.{List, Bool, ℕ, Result, Ok, Err, IfOk, ◌≡◌, ◌∙◌, ap}
use Rattle.history_model.specs.Report.{closing_lines}
use Rattle.history_model.specs.Standing.{world}
use Rattle.history_model.specs.State.{state}
use Rattle.trace_tool.specs.Replay.{past_lines}
use Rattle.trace_tool.proofs.Linking.{names_alike}
use Rattle.trace_tool.proofs.replay.ReplayLineTool.close.Goals as goal

whenever : {E : Type 0} (r : Result (List ℕ) E) (a b : List ℕ) → a ≡ b → IfOk r (λ text. text ≡ a) → IfOk r (λ text. (later : List Bool) → text ≡ b)
whenever (Ok text) a b same is = λ later. is ∙ same
whenever (Err e) a b same is = tt

pub returns : goal.returns
returns g c = record {
  closes = λ opened past stood.
      let p = past_lines past in
      whenever c.report.result _ _ (ap (λ names. closing_lines names (world p.arrivals) (state p.arrivals)) (c.as_slice.ensures.value ∙ c.in_ok-names.ensures ∙ names_alike stood.links_are)) (c.report.ensures p.arrivals stood.serves);
}
