-- A unit that came is handed out, unless it is meant for the connection itself.
use Rattle.std.proofs.Common.{◌≡◌, ℕ, Bool, true, false, List, ◌++◌, length, take, Option, None, Some, Result, Ok, Err, IfOk, ◌∙◌, ap, sym, subst, refl, inl, inr}
use Rattle.octet_reading.specs.declared.memory.NoMemory.{NoMemory}
use Rattle.amqp_terms.specs.declared.unit.Unit.{Unit as AnyUnit}
use Rattle.broker_engine.specs.declared.conn.Conn.{Conn}
use Rattle.broker_engine.specs.declared.intake.Closing.{Closing}
use Rattle.broker_engine.specs.declared.intake.Fed.{Fed}
use Rattle.broker_engine.specs.Talk.{Says, Waits, Tells, Ends, talk, says}
use Rattle.broker_engine.specs.Feeds.{Talks, Fits, Feeds, TellsOwn, is_own}
use Rattle.broker_engine.proofs.Saying.{if_ok}

record Told (s : Says) (taken k : ℕ) (u : AnyUnit) (old new : List ℕ) : Type 0 where
  pub says_is : s ≡ Tells taken k u
  pub same : new ≡ old

told : (s : Says) (all taken k : ℕ) (u : AnyUnit) (closed : Option Closing) (old new : List ℕ) → Fits s all (record { taken = taken; unit = Some (k, u); closed = closed }) old new → Told s taken k u old new
told Waits all taken k u closed old new f = let e : Some (k, u) ≡ None = ap (λ (x : Fed). x.unit) f.0 in absurd (cc e)
told (Tells n j v) all taken k u closed old new f =
    let e : Some (k, u) ≡ Some (j, v) = ap (λ (x : Fed). x.unit) f.0 in
    let n_is : taken ≡ n = ap (λ (x : Fed). x.taken) f.0 in
    let both : ◌≡◌ {A = ℕ × AnyUnit} (k, u) (j, v) = cc e in
    let k_is : k ≡ j = ap (λ (x : ℕ × AnyUnit). x.0) both in
    let u_is : u ≡ v = ap (λ (x : ℕ × AnyUnit). x.1) both in
    record { says_is = ap (λ m. Tells m j v) (sym n_is) ∙ ap (λ m. Tells taken m v) (sym k_is) ∙ ap (λ m. Tells taken k m) (sym u_is); same = f.1 }
told (Ends closing) all taken k u closed old new f = let e : Some (k, u) ≡ None = ap (λ (x : Fed). x.unit) f.0 in absurd (cc e)

pub feeds_unit : (mid_conn after : Conn) (r : Result Fed NoMemory) (before piece : List ℕ) (taken k : ℕ) (u : AnyUnit) (closed : Option Closing) (old mid new : List ℕ)
    → Fits (says (talk before) piece) (length piece) (record { taken = taken; unit = Some (k, u); closed = closed }) old mid
    → Talks mid_conn (before ++ take taken piece)
    → (is_own u ≡ false → (b : List ℕ) → Talks mid_conn b → IfOk r (λ fed. (fed ≡ record { taken = taken; unit = Some (k, u); closed = None }) × Talks after b × (new ≡ mid)))
    → IfOk r (λ fed. Feeds after before piece old new fed)
feeds_unit mid_conn after r before piece taken k u closed old mid new fits talks passes = by_own (is_own u) refl
  where
    t : Told (says (talk before) piece) taken k u old mid
    t = told (says (talk before) piece) (length piece) taken k u closed old mid fits

    any : (x : Result Fed NoMemory) → TellsOwn (says (talk before) piece) → IfOk x (λ fed. Feeds after before piece old new fed)
    any (Ok fed) own = inl own
    any (Err e) own = tt

    by_own : (b : Bool) → is_own u ≡ b → IfOk r (λ fed. Feeds after before piece old new fed)
    by_own true own = any r (subst TellsOwn (sym t.says_is) own)
    by_own false own =
        if_ok r _ _ (λ fed h. inr (
          subst (λ (f : Fed). Talks after (before ++ take f.taken piece)) (sym h.0) h.1,
          subst (λ s. Fits s (length piece) fed old new) (sym t.says_is) (h.0, h.2 ∙ t.same),
        )) (passes own (before ++ take taken piece) talks)
