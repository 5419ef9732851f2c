-- What a fine container holds is fine.
use Rattle.std.proofs.Common.{◌≡◌, ℕ, ◌&&◌, not, eqb, true, List, [], ◌∷◌, length, map, All}
use Rattle.std.specs.Prelude.{bytes_eq}
use Rattle.std.specs.List.{list_any, list_all, AllByRecursion}
use Rattle.std.specs.Str.{is_utf8}
use Rattle.std.proofs.lemmas.Bool.{and_parts}
use Rattle.std.proofs.lemmas.List.Elements.{All-from_recursion}
use Rattle.octet_reading.specs.declared.part.SizeWidth.TheVariants.{One, Four}
use Rattle.amqp_values.specs.Codes.{is_array_code}
use Rattle.amqp_values.specs.declared.value.Pair.{Pair}
use Rattle.amqp_values.specs.declared.value.Value.{Value}
use Rattle.octet_reading.specs.Spelling.{fits}
use Rattle.amqp_values.specs.Spelling.{Told, told, told_pair, keys_fine, counted, pairs_octets, items_octets, values_octets, map_told, list_told, array_told, IsFine, IsPairFine}

each_item : (items : List Value) → list_all (λ (t : Told). t.fine) (map told items) ≡ true → AllByRecursion IsFine items
each_item [] h = tt
each_item (item ∷ items) h =
    let p = and_parts ((told item).fine) (list_all (λ (t : Told). t.fine) (map told items)) h in
    (p.0, each_item items p.1)

each_value : (code : ℕ) (items : List Value) → list_all (λ (t : Told). eqb t.code code && t.fine) (map told items) ≡ true → AllByRecursion IsFine items
each_value code [] h = tt
each_value code (item ∷ items) h =
    let p = and_parts (eqb (told item).code code && (told item).fine) (list_all (λ (t : Told). eqb t.code code && t.fine) (map told items)) h in
    let q = and_parts (eqb (told item).code code) (told item).fine p.0 in
    (q.1, each_value code items p.1)

each_pair : (pairs : List (Pair Value)) → keys_fine (map told_pair pairs) ≡ true → list_all (λ (p : Pair Told). p.value.fine) (map told_pair pairs) ≡ true → AllByRecursion IsPairFine pairs
each_pair [] k h = tt
each_pair (pair ∷ pairs) k h =
    let p = and_parts (told pair.value).fine (list_all (λ (p : Pair Told). p.value.fine) (map told_pair pairs)) h in
    let rest = list_any (λ (q : Pair Told). bytes_eq q.key pair.key) (map told_pair pairs) in
    let q = and_parts (fits One (length pair.key) && is_utf8 pair.key) (not rest && keys_fine (map told_pair pairs)) k in
    let r = and_parts (fits One (length pair.key)) (is_utf8 pair.key) q.0 in
    let s = and_parts (not rest) (keys_fine (map told_pair pairs)) q.1 in
    ((r.0, p.0), each_pair pairs s.1 p.1)

pub list_fine : (items : List Value) → (list_told items).fine ≡ true → All IsFine items
list_fine items h =
    let p = and_parts (fits Four (length (counted (length (map told items)) (items_octets items)))) (fits Four (length (map told items)) && list_all (λ (t : Told). t.fine) (map told items)) h in
    let q = and_parts (fits Four (length (map told items))) (list_all (λ (t : Told). t.fine) (map told items)) p.1 in
    All-from_recursion IsFine items (each_item items q.1)

pub array_fine : (code : ℕ) (items : List Value) → (array_told code items).fine ≡ true → All IsFine items
array_fine code items h =
    let all = list_all (λ (t : Told). eqb t.code code && t.fine) (map told items) in
    let p = and_parts (fits Four (length (code ∷ counted (length (map told items)) (values_octets items)))) (fits Four (length (map told items)) && (is_array_code code && all)) h in
    let q = and_parts (fits Four (length (map told items))) (is_array_code code && all) p.1 in
    let r = and_parts (is_array_code code) all q.1 in
    All-from_recursion IsFine items (each_value code items r.1)

pub map_fine : (pairs : List (Pair Value)) → (map_told pairs).fine ≡ true → All IsPairFine pairs
map_fine pairs h =
    let all = list_all (λ (p : Pair Told). p.value.fine) (map told_pair pairs) in
    let p = and_parts (fits Four (length (counted (length (map told_pair pairs)) (pairs_octets pairs)))) (fits Four (length (map told_pair pairs)) && (keys_fine (map told_pair pairs) && all)) h in
    let q = and_parts (fits Four (length (map told_pair pairs))) (keys_fine (map told_pair pairs) && all) p.1 in
    let r = and_parts (keys_fine (map told_pair pairs)) all q.1 in
    All-from_recursion IsPairFine pairs (each_pair pairs r.0 r.1)
