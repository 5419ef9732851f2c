-- A segment is laid frame by frame, as the loop does.
use Rattle.std.proofs.Common.{◌≡◌, if◌then◌else◌, ℕ, suc, ◌+◌, ◌-◌, ◌<◌, ◌≤◌, List, ◌++◌, length, take, drop, Result, Ok, Err, sym, ap, ◌∙◌, append_assoc, arith}
use Rattle.std.specs.Prelude.{OnOk}
use Rattle.std.proofs.lemmas.Bool.{le-leb, lt-leb}
use Rattle.amqp_frames.specs.Frames.{frame, frames_from}

pub last_step : (fuel most ends kind channel first : ℕ) (rest : List ℕ) → length rest ≤ most → frames_from (suc fuel) most ends kind channel first rest ≡ frame (ends + first + 1) kind channel rest
unfolding frames_from
last_step fuel most ends kind channel first rest le =
    ap (λ b. if b then frame (ends + first + 1) kind channel rest else frame (ends + first) kind channel (take most rest) ++ frames_from fuel most ends kind channel 0 (drop most rest)) (le-leb _ _ le)

pub mid_step : (fuel most ends kind channel first : ℕ) (rest : List ℕ) → most < length rest
    → frames_from (suc fuel) most ends kind channel first rest ≡ frame (ends + first) kind channel (take most rest) ++ frames_from fuel most ends kind channel 0 (drop most rest)
unfolding frames_from
mid_step fuel most ends kind channel first rest lt =
    ap (λ b. if b then frame (ends + first + 1) kind channel rest else frame (ends + first) kind channel (take most rest) ++ frames_from fuel most ends kind channel 0 (drop most rest)) (lt-leb _ _ lt)

-- what follows from what was put, where it was
pub on_ok : {X E : Type 0} (r : Result X E) (A B : Type 0) → OnOk r A → (A → B) → OnOk r B
on_ok (Ok x) A B h f = f h
on_ok (Err e) A B h f = tt

-- the last frame was put
pub is_laid : (fuel most ends kind channel first : ℕ) (rest before now out all : List ℕ) → length rest ≤ most → before ++ frames_from (suc fuel) most ends kind channel first rest ≡ out ++ all
    → now ≡ before ++ frame (ends + first + 1) kind channel rest → now ≡ out ++ all
is_laid fuel most ends kind channel first rest before now out all le so_far put =
    put ∙ ap (λ xs. before ++ xs) (sym (last_step fuel most ends kind channel first rest le)) ∙ so_far

-- one more frame was put
pub goes_on : (count i most ends kind channel first : ℕ) (rest front after before now total : List ℕ) → i < count → most < length rest → front ≡ take most rest → after ≡ drop most rest
    → before ++ frames_from (suc (count - i)) most ends kind channel first rest ≡ total → now ≡ before ++ frame (ends + first) kind channel front
    → now ++ frames_from (suc (count - (i + 1))) most ends kind channel 0 after ≡ total
goes_on count i most ends kind channel first rest front after before now total lt more f a so_far put =
    let fuel : count - i ≡ suc (count - (i + 1)) = omega arith in
    ap (λ xs. xs ++ frames_from (suc (count - (i + 1))) most ends kind channel 0 after) (put ∙ ap (λ xs. before ++ frame (ends + first) kind channel xs) f)
    ∙ append_assoc before (frame (ends + first) kind channel (take most rest)) (frames_from (suc (count - (i + 1))) most ends kind channel 0 after)
    ∙ ap (λ xs. before ++ (frame (ends + first) kind channel (take most rest) ++ frames_from (suc (count - (i + 1))) most ends kind channel 0 xs)) a
    ∙ ap (λ n. before ++ (frame (ends + first) kind channel (take most rest) ++ frames_from n most ends kind channel 0 (drop most rest))) (sym fuel)
    ∙ ap (λ xs. before ++ xs) (sym (mid_step (count - i) most ends kind channel first rest more))
    ∙ so_far
