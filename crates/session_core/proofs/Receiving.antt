-- What a receiver stands for after a command and after a gap.
use Rattle.std.proofs.Common.{◌≡◌, ℕ, ◌+◌, ◌<◌, ◌≤◌, ◌==◌, ◌||◌, not, true, false, List, ◌∷◌, sym, ap, ◌∙◌, subst, arith, inl, inr}
use Rattle.std.proofs.lemmas.Bool.{or_from, or_left, or_right, ne_eqb, eq-eqb, cases_lt}
use Rattle.serial_ranges.specs.Runs.{names, IsLeastMissing}
use Rattle.history_model.specs.Life.{Heard, Attach, Does, Gap, number, taken, is_new, next, IsNext}
use Rattle.history_model.proofs.Nexts.{next_from}
use Rattle.session_core.specs.Received.{Received, Receives, IsLeft, IsUnnamed}

pub next_is : (r : Received) (h : List Heard) → Receives r h → r.next ≡ next h
next_is r h s = sym (next_from h r.next s.next_is.free s.next_is.below)

pub next_at : (h : List Heard) (n : ℕ) → IsNext h n → n ≡ next h
next_at h n s = sym (next_from h n s.free s.below)

-- an attach leaves it
pub attach_is : (r : Received) (h : List Heard) (connection channel : ℕ) → Receives r h → Receives r (Attach connection channel ∷ h)
attach_is r h connection channel s = record { point_is = s.point_is; next_is = record { free = s.next_is.free; below = s.next_is.below }; ahead_is = s.ahead_is }

-- ---- a command

-- one that is new goes on to the next number that is missing
pub next_new : (r : Received) (h : List Heard) (m : ℕ) → Receives r h → r.point ≡ r.next → IsLeastMissing r.ahead (r.next + 1) m → IsNext (Does ∷ h) m
next_new r h m s e l = record {
  free = or_from (m == number h) (taken h m) (ne_eqb m (number h) (λ e'. omega (arith, e, e', s.point_is, l.from_there))) (sym (s.ahead_is m (omega (arith, l.from_there))) ∙ l.missing);
  below = λ k lt. elim (cases_lt k r.next) [
    | inl lt' ↦ or_right (k == number h) (taken h k) (s.next_is.below k lt')
    | inr ge ↦ elim (cases_lt r.next k) [
      | inl gt ↦ or_right (k == number h) (taken h k) (sym (s.ahead_is k ge) ∙ l.before k (omega (arith, gt)) lt)
      | inr le ↦ or_left (k == number h) (taken h k) (eq-eqb k (number h) (omega (arith, ge, le, e, s.point_is)))
    ]
  ];
}

-- one that isn't leaves it
pub next_old : (r : Received) (h : List Heard) → Receives r h → r.point < r.next → IsNext (Does ∷ h) r.next
next_old r h s lt = record {
  free = or_from (r.next == number h) (taken h r.next) (ne_eqb r.next (number h) (λ e'. omega (arith, lt, e', s.point_is))) s.next_is.free;
  below = λ k lt'. or_right (k == number h) (taken h k) (s.next_is.below k lt');
}

pub new_is : (r : Received) (h : List Heard) → Receives r h → r.point ≡ r.next → is_new h ≡ true
new_is r h s e = ap not (ap (taken h) (sym s.point_is ∙ e) ∙ s.next_is.free)

pub old_is : (r : Received) (h : List Heard) → Receives r h → r.point < r.next → is_new h ≡ false
old_is r h s lt = ap not (s.next_is.below (number h) (omega (arith, lt, s.point_is)))

pub does_new : (a b : Received) (h : List Heard) → Receives a h → a.point ≡ a.next → IsLeastMissing a.ahead (a.next + 1) b.next → IsLeft a.ahead b.next b.ahead → b.point ≡ a.point + 1 → Receives b (Does ∷ h)
does_new a b h s e l left p = record {
  point_is = p ∙ ap (λ n. n + 1) s.point_is;
  next_is = next_new a h b.next s e l;
  ahead_is = λ n le.
      let out : n == number h ≡ false = ne_eqb n (number h) (λ e'. omega (arith, le, e, e', s.point_is, l.from_there)) in
      left.from_next n le ∙ s.ahead_is n (omega (arith, le, l.from_there)) ∙ sym (ap (λ t. t || taken h n) out);
}

pub does_old : (a b : Received) (h : List Heard) → Receives a h → a.point < a.next → b.next ≡ a.next → b.ahead ≡ a.ahead → b.point ≡ a.point + 1 → Receives b (Does ∷ h)
does_old a b h s lt e ahead p = record {
  point_is = p ∙ ap (λ n. n + 1) s.point_is;
  next_is = subst (IsNext (Does ∷ h)) (sym e) (next_old a h s lt);
  ahead_is = λ n le.
      let out : n == number h ≡ false = ne_eqb n (number h) (λ e'. omega (arith, le, lt, e, e', s.point_is)) in
      ap (λ runs. names runs n) ahead ∙ s.ahead_is n (omega (arith, le, e)) ∙ sym (ap (λ t. t || taken h n) out);
}

-- ---- a gap

pub next_gap : (r : Received) (h : List Heard) (runs : List (ℕ × ℕ)) (m : ℕ) → Receives r h → IsUnnamed (λ n. names runs n || names r.ahead n) r.next m → IsNext (Gap runs ∷ h) m
next_gap r h runs m s l = record {
  free = ap (λ t. names runs m || t) (sym (s.ahead_is m l.from_there)) ∙ l.missing;
  below = λ k lt. elim (cases_lt k r.next) [
    | inl lt' ↦ or_right (names runs k) (taken h k) (s.next_is.below k lt')
    | inr ge ↦ ap (λ t. names runs k || t) (sym (s.ahead_is k ge)) ∙ l.before k ge lt
  ];
}

pub gap_is : (a b : Received) (h : List Heard) (runs more : List (ℕ × ℕ)) → Receives a h → ((n : ℕ) → a.next ≤ n → names more n ≡ (names runs n || names a.ahead n))
    → IsLeastMissing more a.next b.next → IsLeft more b.next b.ahead → b.point ≡ a.point → Receives b (Gap runs ∷ h)
gap_is a b h runs more s all l left p = record {
  point_is = p ∙ s.point_is;
  next_is = next_gap a h runs b.next s (record {
    from_there = l.from_there;
    missing = sym (all b.next l.from_there) ∙ l.missing;
    before = λ k ge lt. sym (all k ge) ∙ l.before k ge lt;
  });
  ahead_is = λ n le. left.from_next n le ∙ all n (omega (arith, le, l.from_there)) ∙ ap (λ t. names runs n || t) (s.ahead_is n (omega (arith, le, l.from_there)));
}
