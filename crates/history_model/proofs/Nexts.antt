-- The least number that no command had, and that each number acts at most once.
use Rattle.std.proofs.Common.{◌≡◌, nat_le, ℕ, zero, suc, ◌+◌, ◌<◌, ◌≤◌, eqb, Bool, true, false, List, [], ◌∷◌, ◌∙◌, ap, sym, refl, arith, inl, inr}
use Rattle.std.proofs.lemmas.Bool.{or_from, and_right, lt-leb, cond-true, cond-false, ne_eqb, cases_lt, true≢false}
use Rattle.serial_ranges.specs.Runs.{names, within}
use Rattle.history_model.specs.Life.{Heard, Attach, Point, Does, Gap, Gave, Expected, Confirmed, Completed, number, taken, past_runs, past, first_free, next}

-- no run has a number beyond all of them
runs_free : (runs : List (ℕ × ℕ)) (n : ℕ) → past_runs runs ≤ n → names runs n ≡ false
runs_free [] n le = refl
runs_free (run ∷ runs) n le = or_from (within run n) (names runs n) (and_right (nat_le run.0 n) (nat_le n run.1) (lt-leb n run.1 (omega arith))) (runs_free runs n (omega arith))

-- no number from `past` on was taken
pub past_free : (h : List Heard) (n : ℕ) → past h ≤ n → taken h n ≡ false
past_free [] n le = refl
past_free (Attach c k ∷ h) n le = past_free h n le
past_free (Point m ∷ h) n le = past_free h n le
past_free (Does ∷ h) n le = or_from (eqb n (number h)) (taken h n) (ne_eqb n (number h) (λ e. omega arith)) (past_free h n (omega arith))
past_free (Gap runs ∷ h) n le = or_from (names runs n) (taken h n) (runs_free runs n (omega arith)) (past_free h n (omega arith))
past_free (Gave unit ∷ h) n le = past_free h n le
past_free (Expected m ∷ h) n le = past_free h n le
past_free (Confirmed runs ∷ h) n le = past_free h n le
past_free (Completed runs ∷ h) n le = past_free h n le

-- the search finds the first number that fails the test
first_free_is : (fuel start n : ℕ) (test : ℕ → Bool) → start ≤ n → n ≤ start + fuel → test n ≡ false → ((m : ℕ) → start ≤ m → m < n → test m ≡ true) → first_free fuel start test ≡ n
first_free_is zero start n test low high free below = omega arith
first_free_is (suc fuel) start n test low high free below =
    elim (cases_lt start n) [
      | inl lt ↦ cond-true (test start) (first_free fuel (start + 1) test) start (below start (omega arith) lt)
          ∙ first_free_is fuel (start + 1) n test (omega arith) (omega arith) free (λ m le lt'. below m (omega arith) lt')
      | inr ge ↦
          let e : start ≡ n = omega arith in
          cond-false (test start) (first_free fuel (start + 1) test) start (ap test e ∙ free) ∙ e
    ]

-- a free number below which all were taken is the next
pub next_from : (h : List Heard) (n : ℕ) → taken h n ≡ false → ((m : ℕ) → m < n → taken h m ≡ true) → next h ≡ n
unfolding next
next_from h n free below =
    elim (cases_lt (past h) n) [
      | inl lt ↦ absurd (true≢false (sym (below (past h) lt) ∙ past_free h (past h) (omega arith)))
      | inr ge ↦ first_free_is (past h) 0 n (taken h) (omega arith) (omega arith) free (λ m _ lt. below m lt)
    ]
