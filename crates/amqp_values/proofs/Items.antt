-- One item that fails a test, and one item more.
use Rattle.std.proofs.Common.{◌≡◌, ℕ, zero, suc, ◌<◌, ◌&&◌, max, Bool, true, false, List, [], ◌∷◌, ◌++◌, length, map, get_or, ap, ◌∙◌, refl, arith}
use Rattle.std.specs.List.{list_all}
use Rattle.amqp_values.specs.declared.value.Pair.{Pair}
use Rattle.amqp_values.specs.declared.value.Value.{Value}
use Rattle.amqp_values.specs.Spelling.{Told, told, told_pair, deepest, deepest_pair}

and_false : (b : Bool) → (b && false) ≡ false
and_false true = refl
and_false false = refl

pub one_not : {X Y : Type 0} (f : X → Y) (p : Y → Bool) (xs : List X) (i : ℕ) (d : X) → i < length xs → p (f (get_or xs i d)) ≡ false → list_all p (map f xs) ≡ false
one_not f p [] i d lt h = absurd (omega (arith, lt))
one_not f p (x ∷ xs) zero d lt h = ap (λ b. b && list_all p (map f xs)) h
one_not f p (x ∷ xs) (suc i) d lt h = ap (λ b. p (f x) && b) (one_not f p xs i d (omega (arith, lt)) h) ∙ and_false (p (f x))

pub deepest_more : {X : Type 0} (f : X → Told) (xs : List X) (x : X) → deepest (map f (xs ++ x ∷ [])) ≡ max (deepest (map f xs)) (f x).levels
deepest_more f [] x = omega arith
deepest_more f (y ∷ ys) x = omega (arith, deepest_more f ys x)

pub deepest_pair_more : (pairs : List (Pair Value)) (p : Pair Value) → deepest_pair (map told_pair (pairs ++ p ∷ [])) ≡ max (deepest_pair (map told_pair pairs)) (told p.value).levels
deepest_pair_more [] p = omega arith
deepest_pair_more (q ∷ pairs) p = omega (arith, deepest_pair_more pairs p)
