-- What the loop of a whole write keeps.
use Rattle.std.proofs.Common.{◌≡◌, ℕ, ◌-◌, ◌≤◌, List, ◌++◌, Option, take, drop, length, sym, ap, ◌∙◌}
use Rattle.std.proofs.lemmas.List.{take-append-drop, take_rest, append_assoc}
use Rattle.std.specs.Io.KnownBytes.{Appends}
use Rattle.std.proofs.KnownBytes.{Appends-trans}

-- a front was written, and the rest follows it
pub record Wrote (held holds : Option (List ℕ)) (piece rest : List ℕ) : Type 0 where
  pub front : List ℕ
  pub appends : Appends held holds front
  pub parts : piece ≡ front ++ rest

-- a further front of the rest was written
pub wrote_more : (held mid holds : Option (List ℕ)) (piece rest : List ℕ) (n : ℕ) → Wrote held mid piece rest → n ≤ length rest → Appends mid holds (take n rest)
    → Wrote held holds piece (take (length rest - n) (drop n rest))
wrote_more held mid holds piece rest n w h more = record {
  front = w.front ++ take n rest;
  appends = Appends-trans held mid holds w.front (take n rest) w.appends more;
  parts = w.parts ∙ ap (λ xs. w.front ++ xs) (sym (take-append-drop n rest) ∙ ap (λ xs. take n rest ++ xs) (sym (take_rest rest n)))
      ∙ sym (append_assoc w.front (take n rest) (take (length rest - n) (drop n rest)));
}
