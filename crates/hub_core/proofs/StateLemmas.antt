-- The tables of the code and those of the definitions change alike.
use Rattle.std.proofs.Common.{◌≡◌, ℕ, ◌<◌, ◌≤◌, ◌^◌, ◌&&◌, not, ltb, leb, Bool, true, false, cond, List, [], ◌∷◌, length, Option, None, Some, is_some, ◌∙◌, ap, sym, subst, refl, arith, Result, Ok, Err, IfOk}
use Rattle.std.proofs.lemmas.Bool.{ltb-true, leb-true, false≢true, cond-true, and_parts}
use Rattle.std.specs.List.{filter}
use Rattle.std.specs.Map.Calls.{RetainsPairs}
use Rattle.session_core.specs.Sent.{Sending, Sends}
use Rattle.std.specs.Map.{lookup, set_value}
use Rattle.history_model.specs.Life.{Heard, Attach, Point, Does, next, place}
use Rattle.history_model.specs.Pairs.{Paired, Both}
use Rattle.history_model.specs.Pairs as pairs
use Rattle.history_model.specs.Standing.{World, is_name, hears_in, hears_control, begins, may_attach, life_of, is_on}
use Rattle.history_model.specs.State.{may_arrive}
use Rattle.octet_reading.specs.declared.memory.NoMemory.{NoMemory}
use Rattle.amqp_terms.specs.declared.control.Control.TheVariants.{SessionAttach}
use Rattle.amqp_terms.specs.declared.event.Out.{Out}
use Rattle.history_model.specs.Answers.{attach_answers, control_answers}
use Rattle.history_model.proofs.Tables.{paired-lookup, paired-set, length-paired}
use Rattle.hub_core.specs.declared.session.Session.{Session}
use Rattle.hub_core.specs.declared.state.State.{State}
use Rattle.hub_core.specs.Places.{holder_in}
use Rattle.hub_core.specs.Stands.{Sits, StandsAs, next_in}
use Rattle.session_core.proofs.Receiving.{next_is}

-- both are there, or neither
both-is_some : {X Y : Type 0} (R : X → Y → Type 0) (a : Option X) (b : Option Y) → Both R a b → is_some a ≡ is_some b
both-is_some R None None h = refl
both-is_some R None (Some y) h = absurd h
both-is_some R (Some x) None h = absurd h
both-is_some R (Some x) (Some y) h = refl

-- the test for an attach, by the code's tables
pub attach_same : (s : State) (w : World) (queues : List (List ℕ)) (c k : ℕ) (name : List ℕ) → StandsAs s w queues
    → (not (is_some (holder_in s.places c k)) && (not (is_some (lookup (is_name name) s.sessions.entries)) && ltb (length s.sessions.entries) 1024))
    ≡ (not (is_some (w.holder c k)) && (not (is_some (life_of w name)) && ltb (length w.lives) 1024))
attach_same s w queues c k name h =
    ap (λ o. not (is_some o) && (not (is_some (lookup (is_name name) s.sessions.entries)) && ltb (length s.sessions.entries) 1024)) (h.holders c k)
    ∙ ap (λ b. not (is_some (w.holder c k)) && (not b && ltb (length s.sessions.entries) 1024))
    (both-is_some Sits (lookup (is_name name) s.sessions.entries) (life_of w name) (paired-lookup Sits (is_name name) h.lives_are))
    ∙ ap (λ n. not (is_some (w.holder c k)) && (not (is_some (life_of w name)) && ltb n 1024)) (length-paired Sits h.lives_are)

-- a session that was found hears one thing more
pub heard_set : (name : List ℕ) (es : List (List ℕ × Session)) (lives : List (List ℕ × List Heard)) (x y : Session) (heard : Heard)
    → Paired Sits es lives → Some x ≡ lookup (is_name name) es → ((life : List Heard) → lookup (is_name name) lives ≡ Some life → Sits x life → Sits y (heard ∷ life))
    → Paired Sits (set_value (is_name name) es y) (hears_in lives name (lookup (is_name name) lives) heard)
heard_set name es lives x y heard p found f = by_life (lookup (is_name name) lives) refl (subst (λ o. Both Sits o (lookup (is_name name) lives)) (sym found) (paired-lookup Sits (is_name name) p))
  where
    by_life : (o : Option (List Heard)) → lookup (is_name name) lives ≡ o → Both Sits (Some x) o → Paired Sits (set_value (is_name name) es y) (hears_in lives name o heard)
    by_life None e b = absurd b
    by_life (Some life) e b = paired-set Sits (is_name name) y (heard ∷ life) (f life e b) p

-- a session at its end takes no command
pub no_arrival : (name : List ℕ) (lives : List (List ℕ × List Heard)) (x : Session) (life : List Heard) → may_arrive (lookup (is_name name) lives) ≡ true
    → lookup (is_name name) lives ≡ Some life → Sits x life → 2 ^ 62 ≤ x.receiver.next → ⊥
no_arrival name lives x life may e s far =
    let below : next life < 2 ^ 62 = ltb-true (next life) (2 ^ 62) (and_parts (ltb (next life) (2 ^ 62)) (ltb (next (Does ∷ life)) (2 ^ 62)) (sym (ap may_arrive e) ∙ may)).0 in
    omega (arith, next_is x.receiver life s.receives)

-- where no session is, none takes one
pub nobody_arrives : (name : List ℕ) (es : List (List ℕ × Session)) (lives : List (List ℕ × List Heard)) → Paired Sits es lives → None ≡ lookup (is_name name) es
    → may_arrive (lookup (is_name name) lives) ≡ true → ⊥
nobody_arrives name es lives p none may = by_life (lookup (is_name name) lives) may (subst (λ o. Both Sits o (lookup (is_name name) lives)) (sym none) (paired-lookup Sits (is_name name) p))
  where
    by_life : (o : Option (List Heard)) → may_arrive o ≡ true → Both Sits None o → ⊥
    by_life None m b = false≢true m
    by_life (Some life) m b = b

-- where no session is, nothing is heard
pub nobody_hears : (name : List ℕ) (es : List (List ℕ × Session)) (lives : List (List ℕ × List Heard)) (heard : Heard) → Paired Sits es lives → None ≡ lookup (is_name name) es
    → Paired Sits es (hears_in lives name (lookup (is_name name) lives) heard)
nobody_hears name es lives heard p none = by_life (lookup (is_name name) lives) (subst (λ o. Both Sits o (lookup (is_name name) lives)) (sym none) (paired-lookup Sits (is_name name) p))
  where
    by_life : (o : Option (List Heard)) → Both Sits None o → Paired Sits es (hears_in lives name o heard)
    by_life None b = p
    by_life (Some life) b = absurd b

-- a number beyond the next isn't pointed at
pub no_point : (name : List ℕ) (lives : List (List ℕ × List Heard)) (x : Session) (life : List Heard) (number : ℕ) → leb number (next_in (lookup (is_name name) lives)) ≡ true
    → lookup (is_name name) lives ≡ Some life → Sits x life → x.receiver.next < number → ⊥
no_point name lives x life number within e s beyond =
    let low : number ≤ next life = leb-true number (next life) (sym (ap (λ o. leb number (next_in o)) e) ∙ within) in
    omega (arith, next_is x.receiver life s.receives)

-- an attach that may be taken is
pub attach_taken : (s : State) (w : World) (queues : List (List ℕ)) (c k : ℕ) (name : List ℕ) (force : Bool) (result : Result (List Out) NoMemory)
    → ((may_attach w c k name && not force) && leb (length name) 65517) ≡ true
    → IfOk result (λ units. (units ≡ attach_answers k name) × StandsAs s (begins w c k name) queues)
    → IfOk result (λ units. (units ≡ control_answers w c k (SessionAttach (Some name) force)) × StandsAs s (hears_control w c k (SessionAttach (Some name) force)) queues)
attach_taken s w queues c k name force (Err e) both h = tt
attach_taken s w queues c k name force (Ok units) both h =
    let may : may_attach w c k name ≡ true = (and_parts (may_attach w c k name) (not force) (and_parts (may_attach w c k name && not force) (leb (length name) 65517) both).0).0 in (
      h.0 ∙ sym (cond-true (may_attach w c k name) (attach_answers k name) [] may),
      subst (λ v. StandsAs s v queues) (sym (cond-true (may_attach w c k name) (begins w c k name) w may)) h.1,
    )

-- the sessions that a lost connection leaves, by a closure that tells of each whether it lives on
module _ {F : Type 0} (T : F → List ℕ → Session → Bool → Session → F → Type 0) (connection : ℕ) where
  -- what the closure answers of a session
  pub record LivesOn (f : F) (old : Session) (answer : Bool) (new : Session) (after : F) : Type 0 where
    pub lives : (h : List Heard) → Sits old h → answer ≡ not (is_on connection (place h))
    pub same : (h : List Heard) → Sits old h → answer ≡ true → new ≡ old
    pub still : after ≡ f

  pub left_alike : (f : F) → ((k : List ℕ) (v : Session) (b : Bool) (w : Session) (f' : F) → T f k v b w f' → LivesOn f v b w f') → {old : List (List ℕ × Session)} {lives : List (List ℕ × List Heard)} (new : List (List ℕ × Session))
      → RetainsPairs T f old new → Paired Sits old lives → Paired Sits new (filter (λ row. not (is_on connection (place row.1))) lives)
  left_alike f h new r pairs.none = subst (λ es. Paired Sits es []) (sym r) pairs.none
  left_alike f h new r (pairs.more {k = k} {x = x} {y = y} {es = es} {fs = fs} sits p) =
      let a = h k x r.0 r.1 r.2 r.4 in
      let rest = left_alike f h r.3 (subst (λ u. RetainsPairs T u es r.3) a.still r.5) p in
      subst (λ rows. Paired Sits rows (cond (not (is_on connection (place y))) ((k, y) ∷ filter (λ row. not (is_on connection (place row.1))) fs) (filter (λ row. not (is_on connection (place row.1))) fs)))
      (sym r.6) (by_answer r.0 (a.lives y sits) (a.same y sits) rest)
    where
      by_answer : (b : Bool) → b ≡ not (is_on connection (place y)) → (b ≡ true → r.1 ≡ x) → Paired Sits r.3 (filter (λ row. not (is_on connection (place row.1))) fs)
          → Paired Sits (cond b ((k, r.1) ∷ r.3) r.3) (cond (not (is_on connection (place y))) ((k, y) ∷ filter (λ row. not (is_on connection (place row.1))) fs) (filter (λ row. not (is_on connection (place row.1))) fs))
      by_answer true is same rest =
          subst (λ c. Paired Sits ((k, r.1) ∷ r.3) (cond c ((k, y) ∷ filter (λ row. not (is_on connection (place row.1))) fs) (filter (λ row. not (is_on connection (place row.1))) fs))) is
          (pairs.more (subst (λ v. Sits v y) (sym (same refl)) sits) rest)
      by_answer false is same rest =
          subst (λ c. Paired Sits r.3 (cond c ((k, y) ∷ filter (λ row. not (is_on connection (place row.1))) fs) (filter (λ row. not (is_on connection (place row.1))) fs))) is rest

-- a sender has nothing to do with what is received
pub sends_does : (s : Sending) (life : List Heard) → Sends s life → Sends s (Does ∷ life)
sends_does s life h = record { first_is = h.first_is; sent_is = h.sent_is; kept_is = h.kept_is; uncompleted_is = h.uncompleted_is }

pub sends_point : (s : Sending) (life : List Heard) (n : ℕ) → Sends s life → Sends s (Point n ∷ life)
sends_point s life n h = record { first_is = h.first_is; sent_is = h.sent_is; kept_is = h.kept_is; uncompleted_is = h.uncompleted_is }

pub sends_attach : (s : Sending) (c k : ℕ) → Sends s [] → Sends s (Attach c k ∷ [])
sends_attach s c k h = record { first_is = h.first_is; sent_is = h.sent_is; kept_is = h.kept_is; uncompleted_is = h.uncompleted_is }
