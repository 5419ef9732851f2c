-- The keys that were seen are those of the pairs.
use Rattle.std.proofs.Common.{◌≡◌, ℕ, ◌+◌, ◌<◌, ◌≤◌, ◌||◌, length, arith, Bool, true, false, Result, Ok, Err, List, [], ◌∷◌, ◌++◌, sym, ap, ◌∙◌, refl}
use Rattle.std.specs.Prelude.{OnOk, bytes_eq}
use Rattle.std.specs.Cmp.Lexicographic.{slice_cmp, texts_ties}
use Rattle.std.specs.Ordering.{nat_cmp}
use Rattle.std.specs.BTreeMap.{is_at}
use Rattle.std.proofs.lemmas.List.{length-append}
use Rattle.octet_reading.specs.declared.memory.NoMemory.{NoMemory}
use Rattle.amqp_values.specs.declared.value.Pair.{Pair}
use Rattle.amqp_values.specs.declared.value.Value.{Value}
use Rattle.amqp_values.specs.Values.{has_key, has_text, SeesAll, SeesLong}

or_swap : (a b : Bool) → (a || b) ≡ (b || a)
or_swap true true = refl
or_swap true false = refl
or_swap false true = refl
or_swap false false = refl

or_right : (a : Bool) → (a || false) ≡ a
or_right true = refl
or_right false = refl

or_move : (a b c : Bool) → (a || (b || c)) ≡ ((a || b) || c)
or_move true b c = refl
or_move false b c = refl

-- the key of one pair more
pub key_more : (pairs : List (Pair Value)) (p : Pair Value) (text : List ℕ) → has_key (pairs ++ p ∷ []) text ≡ (has_key pairs text || bytes_eq p.key text)
key_more [] p text = or_right (bytes_eq p.key text)
key_more (q ∷ pairs) p text = ap (λ b. bytes_eq q.key text || b) (key_more pairs p text) ∙ or_move (bytes_eq q.key text) (has_key pairs text) (bytes_eq p.key text)

pub sees_more : (old new : List (List ℕ)) (pairs : List (Pair Value)) (key : List ℕ) (value : Value) → SeesAll old pairs
    → ((q : List ℕ) → has_text new q ≡ (is_at (slice_cmp nat_cmp key) q || has_text old q)) → SeesAll new (pairs ++ record { key = key; value = value } ∷ [])
sees_more old new pairs key value all added = λ text.
    added text ∙ ap (λ b. b || has_text old text) (sym (texts_ties key text)) ∙ or_swap (bytes_eq key text) (has_text old text)
    ∙ ap (λ b. b || bytes_eq key text) (all text) ∙ sym (key_more pairs (record { key = key; value = value }) text)

-- few pairs and one more
pub sees_few : (keys : List (List ℕ)) (pairs : List (Pair Value)) (p : Pair Value) → length pairs < 64 → SeesLong keys pairs → SeesLong keys (pairs ++ p ∷ [])
sees_few keys pairs p lt s = (λ le. s.0 (omega (arith, lt)), λ more. absurd (omega (arith, more, lt, length-append pairs (p ∷ []))))

-- many pairs and one more
pub sees_many : (old new : List (List ℕ)) (pairs : List (Pair Value)) (key : List ℕ) (value : Value) → 64 ≤ length pairs → SeesAll old pairs
    → ((q : List ℕ) → has_text new q ≡ (is_at (slice_cmp nat_cmp key) q || has_text old q)) → SeesLong new (pairs ++ record { key = key; value = value } ∷ [])
sees_many old new pairs key value le all added =
    (λ few. absurd (omega (arith, few, le, length-append pairs (record { key = key; value = value } ∷ []))), λ more. sees_more old new pairs key value all added)

-- what follows from what was noted
pub on_noted : (r : Result Bool NoMemory) (A B : Type 0) → OnOk r A → (A → B) → OnOk r B
on_noted (Ok x) A B h f = f h
on_noted (Err e) A B h f = tt
