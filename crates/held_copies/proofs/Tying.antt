-- What sessions hold once a copy changes or a list is given back.
use Rattle.std.proofs.Common.{◌≡◌, ◌≢◌, ℕ, ◌==◌, nat_eq, Bool, true, false, if◌then◌else◌, List, [], ◌∷◌, map, Option, None, Some, is_none, IfSome, IfNone, refl, sym, ap, subst, ◌∙◌}
use Rattle.std.proofs.lemmas.Bool.{eqb-true, true≢false}
use Rattle.std.proofs.lemmas.Option.{none-some}
use Rattle.std.specs.Map.{lookup}
use Rattle.queue_copies.specs.declared.entry.Holder.{Holder}
use Rattle.queue_copies.specs.declared.entry.Holder.TheVariants.{Session, Branch}
use Rattle.queue_copies.specs.Copied.{Hold, Copied, find, either, find_in, hold_of, lane_of, changed, removed, held_by, released}
use Rattle.held_copies.specs.Lanes.{Laned, lane_in, Lies, session_in}
use Rattle.held_copies.specs.Holding.{session_of, Fits}
use Rattle.held_copies.proofs.Laning.{differ, apart, some_is}

abbrev pub mapped : (Copied → Copied) → Option Copied → Option Copied
mapped f None = None
mapped f (Some c) = Some (f c)

-- ---- what is found by a number

mapped_if : (b : Bool) (f : Copied → Copied) (c : Copied) (o : Option Copied) → (if b then Some (f c) else mapped f o) ≡ mapped f (if b then Some c else o)
mapped_if true f c o = refl
mapped_if false f c o = refl

module _ (n : ℕ) (f : Copied → Copied) (numbered : (c : Copied) → (f c).copy.number ≡ c.copy.number) where
  find_changed : (cs : List Copied) → find n (changed n f cs) ≡ mapped f (find n cs)
  find_changed [] = refl
  find_changed (c ∷ cs) = go (c.copy.number == n) refl (find_changed cs) where
    go : (b : Bool) → (c.copy.number == n) ≡ b → find n (changed n f cs) ≡ mapped f (find n cs) → find n ((if b then f c else c) ∷ changed n f cs) ≡ mapped f (if b then Some c else find n cs)
    go true e ih = ap (λ (b : Bool). if b then Some (f c) else find n (changed n f cs)) (ap (λ (m : ℕ). m == n) (numbered c) ∙ e)
    go false e ih = ap (λ (b : Bool). if b then Some c else find n (changed n f cs)) e ∙ ih

  find_changed_other : (m : ℕ) → (m == n) ≡ false → (cs : List Copied) → find m (changed n f cs) ≡ find m cs
  find_changed_other m d [] = refl
  find_changed_other m d (c ∷ cs) = go (c.copy.number == n) refl (find_changed_other m d cs) where
    go : (b : Bool) → (c.copy.number == n) ≡ b → find m (changed n f cs) ≡ find m cs → find m ((if b then f c else c) ∷ changed n f cs) ≡ (if c.copy.number == m then Some c else find m cs)
    go true e ih =
        let far : (c.copy.number == m) ≡ false = apart c.copy.number m (λ i. differ m n d (sym i ∙ eqb-true c.copy.number n e)) in
        ap (λ (b : Bool). if b then Some (f c) else find m (changed n f cs)) (ap (λ (k : ℕ). k == m) (numbered c) ∙ far) ∙ (ih ∙ ap (λ (b : Bool). if b then Some c else find m cs) (sym far))
    go false e ih = ap (λ (o : Option Copied). if c.copy.number == m then Some c else o) ih

  either_mapped : (a b : Option Copied) → either (mapped f a) (mapped f b) ≡ mapped f (either a b)
  either_mapped None b = refl
  either_mapped (Some c) b = refl

  pub found_changed : (lists : List (List Copied)) → find_in n (map (changed n f) lists) ≡ mapped f (find_in n lists)
  found_changed [] = refl
  found_changed (cs ∷ lists) =
      ap (λ (o : Option Copied). either o (find_in n (map (changed n f) lists))) (find_changed cs)
      ∙ (ap (either (mapped f (find n cs))) (found_changed lists) ∙ either_mapped (find n cs) (find_in n lists))

  pub found_changed_other : (m : ℕ) → (m == n) ≡ false → (lists : List (List Copied)) → find_in m (map (changed n f) lists) ≡ find_in m lists
  found_changed_other m d [] = refl
  found_changed_other m d (cs ∷ lists) =
      ap (λ (o : Option Copied). either o (find_in m (map (changed n f) lists))) (find_changed_other m d cs) ∙ ap (either (find m cs)) (found_changed_other m d lists)

find_removed : (n : ℕ) (cs : List Copied) → find n (removed n cs) ≡ None
find_removed n [] = refl
find_removed n (c ∷ cs) = go (c.copy.number == n) refl (find_removed n cs) where
  go : (b : Bool) → (c.copy.number == n) ≡ b → find n (removed n cs) ≡ None → find n (if b then removed n cs else c ∷ removed n cs) ≡ None
  go true e ih = ih
  go false e ih = ap (λ (b : Bool). if b then Some c else find n (removed n cs)) e ∙ ih

find_removed_other : (n m : ℕ) → (m == n) ≡ false → (cs : List Copied) → find m (removed n cs) ≡ find m cs
find_removed_other n m d [] = refl
find_removed_other n m d (c ∷ cs) = go (c.copy.number == n) refl (find_removed_other n m d cs) where
  go : (b : Bool) → (c.copy.number == n) ≡ b → find m (removed n cs) ≡ find m cs → find m (if b then removed n cs else c ∷ removed n cs) ≡ (if c.copy.number == m then Some c else find m cs)
  go true e ih = ih ∙ ap (λ (b : Bool). if b then Some c else find m cs) (sym (apart c.copy.number m (λ i. differ m n d (sym i ∙ eqb-true c.copy.number n e))))
  go false e ih = ap (λ (o : Option Copied). if c.copy.number == m then Some c else o) ih

pub found_removed : (n : ℕ) (lists : List (List Copied)) → find_in n (map (removed n) lists) ≡ None
found_removed n [] = refl
found_removed n (cs ∷ lists) = ap (λ (o : Option Copied). either o (find_in n (map (removed n) lists))) (find_removed n cs) ∙ found_removed n lists

pub found_removed_other : (n m : ℕ) → (m == n) ≡ false → (lists : List (List Copied)) → find_in m (map (removed n) lists) ≡ find_in m lists
found_removed_other n m d [] = refl
found_removed_other n m d (cs ∷ lists) =
    ap (λ (o : Option Copied). either o (find_in m (map (removed n) lists))) (find_removed_other n m d cs) ∙ ap (either (find m cs)) (found_removed_other n m d lists)

-- ---- holders lie in their lists

-- a list that is somebody's stays his
pub lies_kept : (v w : Laned) → ((session lane : ℕ) → lane_in v session ≡ Some lane → lane_in w session ≡ Some lane) → (holder : Holder) (lane : ℕ) → Lies v holder lane → Lies w holder lane
lies_kept v w k (Session s t) lane q = k s lane q
lies_kept v w k (Branch x) lane q = q

some_hold : (o : Option Hold) (s : ℕ) → session_of o ≡ Some s → (h : Hold) × ((o ≡ Some h) × (session_in h.holder ≡ Some s))
some_hold None s q = absurd (none-some s q)
some_hold (Some h) s q = (h, (refl, q))

lies_session : (v : Laned) (holder : Holder) (s lane : ℕ) → session_in holder ≡ Some s → Lies v holder lane → lane_in v s ≡ Some lane
lies_session v (Session t x) s lane q l = ap (lane_in v) (sym (some_is t s q)) ∙ l
lies_session v (Branch x) s lane q l = absurd (none-some s q)

-- the list of a session that holds a copy
pub holds_lane : (v : Laned) (lists : List (List Copied)) → Fits v lists → (m s : ℕ) → session_of (hold_of (find_in m lists)) ≡ Some s → (lane : ℕ) × ((lane_in v s ≡ Some lane) × (lane_of (hold_of (find_in m lists)) ≡ Some lane))
holds_lane v lists fits m s q =
    let h = some_hold (hold_of (find_in m lists)) s q in
    (h.0.lane, (lies_session v h.0.holder s h.0.lane h.1.1 (fits m h.0 h.1.0), ap lane_of h.1.0))

some_lane : (o : Option Hold) (lane : ℕ) → lane_of o ≡ Some lane → (h : Hold) × ((o ≡ Some h) × (h.lane ≡ lane))
some_lane None lane q = absurd (none-some lane q)
some_lane (Some h) lane q = (h, (refl, some_is h.lane lane q))

-- who holds a copy in the list of a session
pub lane_holds : (v : Laned) (lists : List (List Copied)) → Fits v lists → (m s lane : ℕ) → lane ≢ 0 → ((other : ℕ) → lane_in v other ≡ Some lane → other ≡ s) → lane_of (hold_of (find_in m lists)) ≡ Some lane → session_of (hold_of (find_in m lists)) ≡ Some s
lane_holds v lists fits m s lane above own q =
    let h = some_lane (hold_of (find_in m lists)) lane q in
    ap session_of h.1.0 ∙ go h.0.holder (subst (λ (l : ℕ). Lies v h.0.holder l) h.1.1 (fits m h.0 h.1.0)) where
      go : (holder : Holder) → Lies v holder lane → session_in holder ≡ Some s
      go (Session t x) l = ap (λ (k : ℕ). Some k) (own t l)
      go (Branch x) l = absurd (above l)

pub forget_fits : (v w : Laned) (lists : List (List Copied)) → Fits v lists → (s lane : ℕ) → lane_in v s ≡ Some lane → ((other : ℕ) → (other == s) ≡ false → lane_in w other ≡ lane_in v other) → ((m : ℕ) → lane_of (hold_of (find_in m lists)) ≡ Some lane → ⊥) → Fits w lists
forget_fits v w lists fits s lane is others none m h q = go h.holder refl (fits m h q) where
  go : (holder : Holder) → h.holder ≡ holder → Lies v holder h.lane → Lies w holder h.lane
  go (Branch x) e l = l
  go (Session t x) e l = pick (t == s) refl where
    pick : (b : Bool) → (t == s) ≡ b → lane_in w t ≡ Some h.lane
    pick true f = absurd (none m (ap lane_of q ∙ (sym l ∙ (ap (lane_in v) (eqb-true t s f) ∙ is))))
    pick false f = others t f ∙ l

module _ (v w : Laned) (lists : List (List Copied)) (fits : Fits v lists) (kept : (session lane : ℕ) → lane_in v session ≡ Some lane → lane_in w session ≡ Some lane) (n : ℕ) where
  held_go : (holder : Holder) (lane : ℕ) (h : Hold) (o : Option Copied) → Lies w holder lane → hold_of (mapped (held_by holder lane) o) ≡ Some h → Lies w h.holder h.lane
  held_go holder lane h None l q = absurd (none-some h q)
  held_go holder lane h (Some c) l q = subst (λ (x : Hold). Lies w x.holder x.lane) (some_is (record { holder = holder; lane = lane }) h q) l

  pub acquire_fits : (holder : Holder) (lane : ℕ) → Lies w holder lane → Fits w (map (changed n (held_by holder lane)) lists)
  acquire_fits holder lane l m h q = go (m == n) refl where
    go : (b : Bool) → (m == n) ≡ b → Lies w h.holder h.lane
    go true e =
        held_go holder lane h (find_in n lists) l
        (sym (ap (λ (k : ℕ). hold_of (find_in k (map (changed n (held_by holder lane)) lists))) (eqb-true m n e) ∙ ap hold_of (found_changed n (held_by holder lane) (λ c. refl) lists)) ∙ q)
    go false e = lies_kept v w kept h.holder h.lane (fits m h (sym (ap hold_of (found_changed_other n (held_by holder lane) (λ c. refl) m e lists)) ∙ q))

  free_go : (again : Bool) (h : Hold) (o : Option Copied) → hold_of (mapped (released again) o) ≡ Some h → ⊥
  free_go again h None q = none-some h q
  free_go again h (Some c) q = none-some h q

pub release_fits : (v : Laned) (lists : List (List Copied)) → Fits v lists → (n : ℕ) (again : Bool) → Fits v (map (changed n (released again)) lists)
release_fits v lists fits n again m h q = go (m == n) refl where
  none : (o : Option Copied) → hold_of (mapped (released again) o) ≡ Some h → ⊥
  none None t = none-some h t
  none (Some c) t = none-some h t

  go : (b : Bool) → (m == n) ≡ b → Lies v h.holder h.lane
  go true e =
      absurd (none (find_in n lists)
      (sym (ap (λ (k : ℕ). hold_of (find_in k (map (changed n (released again)) lists))) (eqb-true m n e) ∙ ap hold_of (found_changed n (released again) (λ c. refl) lists)) ∙ q))
  go false e = fits m h (sym (ap hold_of (found_changed_other n (released again) (λ c. refl) m e lists)) ∙ q)

pub accept_fits : (v : Laned) (lists : List (List Copied)) → Fits v lists → (n : ℕ) → Fits v (map (removed n) lists)
accept_fits v lists fits n m h q = go (m == n) refl where
  go : (b : Bool) → (m == n) ≡ b → Lies v h.holder h.lane
  go true e = absurd (none-some h (sym (ap (λ (k : ℕ). hold_of (find_in k (map (removed n) lists))) (eqb-true m n e) ∙ ap hold_of (found_removed n lists)) ∙ q))
  go false e = fits m h (sym (ap hold_of (found_removed_other n m e lists)) ∙ q)

pub none_of : {P : Type 0} (o : Option ℕ) → is_none o ≡ true → IfNone o P → P
none_of {P} None e p = p
none_of {P} (Some n) e p = absurd (true≢false (sym e))

pub if_some : (P Q : ℕ → Type 0) (o : Option ℕ) → ((n : ℕ) → P n → Q n) → IfSome o P → IfSome o Q
if_some P Q None f p = p
if_some P Q (Some n) f p = f n p

pub if_none : (P Q : Type 0) (o : Option ℕ) → (P → Q) → IfNone o P → IfNone o Q
if_none P Q None f p = f p
if_none P Q (Some n) f p = p

-- with the same lists of sessions
pub same_fits : (v w : Laned) (lists : List (List Copied)) → w.of ≡ v.of → Fits v lists → Fits w lists
same_fits v w lists is fits m h q = lies_kept v w (λ s lane t. ap (λ (es : List (ℕ × ℕ)). lookup (nat_eq s) es) is ∙ t) h.holder h.lane (fits m h q)
