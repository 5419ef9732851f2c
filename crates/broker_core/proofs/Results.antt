-- What is answered has a spelling.
use Rattle.std.proofs.Common.{◌≡◌, ◌&&◌, Bool, true, false, Option, None, Some, refl, sym}
use Rattle.std.proofs.lemmas.Bool.{true≢false}
use Rattle.amqp_values.specs.declared.value.Value.{Value}
use Rattle.amqp_packed.specs.Spelling.{is_fine}
use Rattle.amqp_packed.specs.Typed.{of_bit, of_map}
use Rattle.broker_core.specs.Sound.{map_fine}

pub both : (a b : Bool) → a ≡ true → b ≡ true → a && b ≡ true
both true b e f = f
both false b e f = absurd (true≢false (sym e))

pub map_is : (arguments : Option Value) → map_fine arguments ≡ true → is_fine (of_map arguments) ≡ true
map_is None e = refl
map_is (Some value) e = e

pub bit_is : (bit : Bool) → is_fine (of_bit bit) ≡ true
bit_is true = refl
bit_is false = refl

-- arguments and what follows them
pub query_fine : (a b : Bool) (arguments : Option Value) (rest : Bool) → map_fine arguments ≡ true → rest ≡ true → is_fine (of_bit a) && (is_fine (of_bit b) && (is_fine (of_map arguments) && rest)) ≡ true
query_fine a b arguments rest e f = both (is_fine (of_bit a)) _ (bit_is a) (both (is_fine (of_bit b)) _ (bit_is b) (both (is_fine (of_map arguments)) rest (map_is arguments e) f))
