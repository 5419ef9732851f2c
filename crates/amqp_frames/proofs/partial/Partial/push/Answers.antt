-- The twelfth octet is written behind the eleven.
use Rattle.std.proofs.Common.{◌≡◌, ℕ, zero, suc, List, [], ◌∷◌, ◌++◌, length, take, set, ap, ◌∙◌, sym, refl, arith}
use Rattle.std.proofs.lemmas.List.{length-take}
use Rattle.amqp_frames.proofs.partial.Partial.push.Goals as goal

-- the last place is written
set_last : (xs : List ℕ) (n o : ℕ) → length xs ≡ suc n → set xs n o ≡ take n xs ++ o ∷ []
set_last [] n o e = absurd (omega arith)
set_last (x ∷ []) zero o e = refl
set_last (x ∷ []) (suc n) o e = absurd (omega arith)
set_last (x ∷ y ∷ ys) zero o e = absurd (omega arith)
set_last (x ∷ y ∷ ys) (suc n) o e = ap (λ l. x ∷ l) (set_last (y ∷ ys) n o (omega arith))

pub returns : goal.returns
returns c =
    let eleven : c.self.inside.len ≡ 11 = omega (arith, c.self.invariant) in
    let view : take c.self.inside.len c.self.inside.octets ≡ c.args.self.now = c.self.view_is in (
      set_last c.self.inside.octets c.self.inside.len c.args.octet (omega (arith, c.self.told)) ∙ ap (λ l. l ++ c.args.octet ∷ []) view,
      omega (arith, ap length (sym view), length-take c.self.inside.len c.self.inside.octets, c.self.told),
      refl,
    )
