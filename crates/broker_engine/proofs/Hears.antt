-- What octets say first is what is heard of them first.
use Rattle.std.proofs.Common.{◌≡◌, ℕ, List, [], ◌∷◌, take, drop, fold, ◌∙◌, ap, sym, subst, refl, add-one}
use Rattle.amqp_terms.specs.declared.event.HubEvent.TheVariants as event
use Rattle.history_model.specs.Arrivals.{Arrival}
use Rattle.broker_engine.specs.Talk.{Brings, Nothing, Passes, Closes, Talk, Says, Waits, Tells, Ends, brings_octet, talk_octet, one_later, says_first, says}
use Rattle.broker_engine.specs.Trace.{hear_unit, hear_end, hear_brings, hear_octets}

-- nothing; or a unit, and what follows it; or the end
abbrev pub HeardAs : Says → ℕ → Talk → List ℕ → List Arrival → Type 0
HeardAs Waits n t octets h = hear_octets n t octets h ≡ hear_octets n (fold talk_octet t octets) [] h
HeardAs (Tells taken k u) n t octets h =
    hear_octets n t octets h ≡ hear_unit h (event.Unit n k u) (λ more. hear_octets n (fold talk_octet t (take taken octets)) (drop taken octets) more)
HeardAs (Ends closing) n t octets h = hear_octets n t octets h ≡ hear_end n closing h

-- after an octet that brings nothing
heard_later : (s : Says) (n : ℕ) (t : Talk) (o : ℕ) (octets : List ℕ) (h : List Arrival) → brings_octet t o ≡ Nothing → HeardAs s n (talk_octet t o) octets h → HeardAs (one_later s) n t (o ∷ octets) h
heard_later Waits n t o octets h e s = ap (λ b. hear_brings n b h (λ more. hear_octets n (talk_octet t o) octets more)) e ∙ s
heard_later (Tells taken k u) n t o octets h e s =
    ap (λ b. hear_brings n b h (λ more. hear_octets n (talk_octet t o) octets more)) e ∙ s
    ∙ ap (λ m. hear_unit h (event.Unit n k u) (λ more. hear_octets n (fold talk_octet t (take m (o ∷ octets))) (drop m (o ∷ octets)) more)) (sym (add-one taken))
heard_later (Ends closing) n t o octets h e s = ap (λ b. hear_brings n b h (λ more. hear_octets n (talk_octet t o) octets more)) e ∙ s

pub heard_as : (n : ℕ) (t : Talk) (octets : List ℕ) (h : List Arrival) → HeardAs (says t octets) n t octets h
heard_as n t [] h = refl
heard_as n t (o ∷ octets) h =
    by_brings n t o octets h (brings_octet t o) refl (heard_as n (talk_octet t o) octets h)
  where
    by_brings : (n : ℕ) (t : Talk) (o : ℕ) (octets : List ℕ) (h : List Arrival) (b : Brings) → brings_octet t o ≡ b → HeardAs (says (talk_octet t o) octets) n (talk_octet t o) octets h
        → HeardAs (says_first (brings_octet t o) (says (talk_octet t o) octets)) n t (o ∷ octets) h
    by_brings n t o octets h Nothing e s =
        subst (λ x. HeardAs (says_first x (says (talk_octet t o) octets)) n t (o ∷ octets) h) (sym e) (heard_later (says (talk_octet t o) octets) n t o octets h e s)
    by_brings n t o octets h (Passes k u) e s =
        subst (λ x. HeardAs (says_first x (says (talk_octet t o) octets)) n t (o ∷ octets) h) (sym e)
        (ap (λ b. hear_brings n b h (λ more. hear_octets n (talk_octet t o) octets more)) e)
    by_brings n t o octets h (Closes closing) e s =
        subst (λ x. HeardAs (says_first x (says (talk_octet t o) octets)) n t (o ∷ octets) h) (sym e)
        (ap (λ b. hear_brings n b h (λ more. hear_octets n (talk_octet t o) octets more)) e)
