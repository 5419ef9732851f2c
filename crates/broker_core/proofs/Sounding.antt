-- What is put in or taken out leaves the rest as it was.
use Rattle.std.proofs.Common.{◌≡◌, ℕ, Bool, true, false, if◌then◌else◌, List, [], ◌∷◌, filter, bytes_eq, nat_cmp, Option, None, Some, refl, sym, ap, subst}
use Rattle.std.proofs.lemmas.Bool.{true≢false}
use Rattle.std.specs.List.{AllByRecursion}
use Rattle.std.specs.Cmp.Lexicographic.{slice_cmp}
use Rattle.std.specs.Ordering.{is_lt}
use Rattle.name_map.specs.Named.{find, put, out}
use Rattle.exchange_core.specs.declared.marks.ExchangeMarks.{ExchangeMarks}
use Rattle.exchange_core.specs.Routes.{Rowed}
use Rattle.exchange_core.specs.Exchanges.{Exchanged, ends, after_unbinding}
use Rattle.exchange_core.specs.Exchanges as exchanges
use Rattle.queue_core.specs.declared.marks.QueueMarks.{QueueMarks}
use Rattle.queue_core.specs.Queues.{Queued}
use Rattle.queue_core.specs.Queues as queues
use Rattle.broker_core.specs.Sound.{ExchangeFine, QueueFine}
use Rattle.broker_core.specs.Edits.{PlacesExchange, PlacesQueue}

module _ {T : Type 0} (P : T → Type 0) where
  abbrev pub Each : List (List ℕ × T) → Type 0
  Each es = AllByRecursion {X = List ℕ × T} (λ e. P e.1) es

  pub each_put : (name : List ℕ) (value : T) (es : List (List ℕ × T)) → P value → Each es → Each (put name value es)
  each_put name value [] p h = (p, tt)
  each_put name value (e ∷ es) p h = go (is_lt (slice_cmp nat_cmp name e.0)) (each_put name value es p h.1) where
    go : (b : Bool) → Each (put name value es) → Each (if b then (name, value) ∷ e ∷ es else e ∷ put name value es)
    go true more = (p, h)
    go false more = (h.0, more)

  pub each_out : (name : List ℕ) (es : List (List ℕ × T)) → Each es → Each (out name es)
  each_out name [] h = tt
  each_out name (e ∷ es) h = go (bytes_eq e.0 name) (each_out name es h.1) where
    go : (b : Bool) → Each (out name es) → Each (if b then es else e ∷ out name es)
    go true more = h.1
    go false more = (h.0, more)

  pub each_filter : (p : List ℕ × T → Bool) (es : List (List ℕ × T)) → Each es → Each (filter p es)
  each_filter p [] h = tt
  each_filter p (e ∷ es) h = go (p e) (each_filter p es h.1) where
    go : (b : Bool) → Each (filter p es) → Each (if b then e ∷ filter p es else filter p es)
    go true more = (h.0, more)
    go false more = more

-- what is put in is fine, and so all is
pub exchange_placed : (name : List ℕ) (marks : ExchangeMarks) (old new : Exchanged) (o : Option (ExchangeMarks × ℕ)) → PlacesExchange o name marks old new → ExchangeFine marks → Each (λ x. ExchangeFine x.0) old.entries → Each (λ x. ExchangeFine x.0) new.entries
exchange_placed name marks old new None p fine h = subst (Each (λ x. ExchangeFine x.0)) (sym p.0.1) (each_put (λ x. ExchangeFine x.0) name (marks, p.0.0) old.entries fine h)
exchange_placed name marks old new (Some there) p fine h = subst (λ (x : Exchanged). Each (λ y. ExchangeFine y.0) x.entries) (sym p) h

pub queue_placed : (name : List ℕ) (marks : QueueMarks) (old new : Queued) (o : Option (QueueMarks × ℕ)) → PlacesQueue o name marks old new → QueueFine marks → Each (λ x. QueueFine x.0) old.entries → Each (λ x. QueueFine x.0) new.entries
queue_placed name marks old new None p fine h = subst (Each (λ x. QueueFine x.0)) (sym p.0.1) (each_put (λ x. QueueFine x.0) name (marks, p.0.0) old.entries fine h)
queue_placed name marks old new (Some there) p fine h = subst (λ (x : Queued). Each (λ y. QueueFine y.0) x.entries) (sym p) h

-- an exchange ends with its last binding, or stays
pub exchange_unbound : (name : List ℕ) (exchange : Option (ExchangeMarks × ℕ)) (queue key : List ℕ) (rows : List Rowed) (entries : List (List ℕ × (ExchangeMarks × ℕ))) → Each (λ x. ExchangeFine x.0) entries → Each (λ x. ExchangeFine x.0) (after_unbinding name exchange queue key rows entries)
exchange_unbound name exchange queue key rows entries h = go (ends exchange queue key rows) where
  go : (b : Bool) → Each (λ x. ExchangeFine x.0) (if b then out name entries else entries)
  go true = each_out (λ x. ExchangeFine x.0) name entries h
  go false = h

module _ {T : Type 0} (P : T → Type 0) where
  each_found : (name : List ℕ) (es : List (List ℕ × T)) → Each P es → (x : T) → find name es ≡ Some x → P x
  each_found name [] h x e = absurd (some_none e) where
    some_none : ◌≡◌ {A = Option T} None (Some x) → ⊥
    some_none q = true≢false (ap (λ (o : Option T). elim o [ None ↦ true | Some y ↦ false ]) q)
  each_found name (e ∷ es) h x q = go (bytes_eq e.0 name) (λ r. each_found name es h.1 x r) q where
    go : (b : Bool) → (find name es ≡ Some x → P x) → (if b then Some e.1 else find name es) ≡ Some x → P x
    go true more r = subst P (ap (λ (o : Option T). elim o [ None ↦ e.1 | Some y ↦ y ]) r) h.0
    go false more r = more r

-- the marks that are found are fine
pub queue_found : (name : List ℕ) (es : List (List ℕ × (QueueMarks × ℕ))) → Each (λ x. QueueFine x.0) es → (marks : QueueMarks) → Some marks ≡ queues.marks_in (find name es) → QueueFine marks
queue_found name es h marks e = go (find name es) (λ x q. each_found (λ x. QueueFine x.0) name es h x q) e where
  go : (o : Option (QueueMarks × ℕ)) → ((x : QueueMarks × ℕ) → o ≡ Some x → QueueFine x.0) → Some marks ≡ queues.marks_in o → QueueFine marks
  go None f q = absurd (true≢false (ap (λ (o : Option QueueMarks). elim o [ None ↦ false | Some y ↦ true ]) q))
  go (Some x) f q = subst QueueFine (sym (ap (λ (o : Option QueueMarks). elim o [ None ↦ marks | Some y ↦ y ]) q)) (f x refl)

pub exchange_found : (name : List ℕ) (es : List (List ℕ × (ExchangeMarks × ℕ))) → Each (λ x. ExchangeFine x.0) es → (marks : ExchangeMarks) → Some marks ≡ exchanges.marks_in (find name es) → ExchangeFine marks
exchange_found name es h marks e = go (find name es) (λ x q. each_found (λ x. ExchangeFine x.0) name es h x q) e where
  go : (o : Option (ExchangeMarks × ℕ)) → ((x : ExchangeMarks × ℕ) → o ≡ Some x → ExchangeFine x.0) → Some marks ≡ exchanges.marks_in o → ExchangeFine marks
  go None f q = absurd (true≢false (ap (λ (o : Option ExchangeMarks). elim o [ None ↦ false | Some y ↦ true ]) q))
  go (Some x) f q = subst ExchangeFine (sym (ap (λ (o : Option ExchangeMarks). elim o [ None ↦ marks | Some y ↦ y ]) q)) (f x refl)
