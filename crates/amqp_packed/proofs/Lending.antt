-- Fields that are lent have spellings where the fields have.
use Rattle.std.proofs.Common.{◌≡◌, ◌&&◌, List, [], ◌∷◌, map, refl, ap}
use Rattle.std.specs.List.{list_all}
use Rattle.amqp_packed.specs.declared.lent.FieldRef.{FieldRef}
use Rattle.amqp_packed.specs.Spelling.{is_fine}
use Rattle.amqp_packed.specs.Lent.{lent, lent_fine}

pub fine_lent : (fields : List FieldRef) → list_all lent_fine fields ≡ list_all is_fine (map lent fields)
fine_lent [] = refl
fine_lent (x ∷ xs) = ap (λ b. lent_fine x && b) (fine_lent xs)
