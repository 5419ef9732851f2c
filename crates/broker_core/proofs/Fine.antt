-- What a command's spelling tells of its fields.
use Rattle.std.proofs.Common.{◌≡◌, ℕ, ◌&&◌, Bool, true, false, List, [], ◌∷◌, length, Option, None, Some, refl, sym}
use Rattle.std.proofs.lemmas.Bool.{true≢false}
use Rattle.std.specs.List.{list_all}
use Rattle.std.specs.Str.{is_utf8, chars}
use Rattle.octet_reading.specs.declared.part.SizeWidth.TheVariants.{One}
use Rattle.octet_reading.specs.Spelling.{fits}
use Rattle.amqp_values.specs.declared.value.Value.{Value}
use Rattle.amqp_packed.specs.declared.field.Field.{Field}
use Rattle.amqp_packed.specs.Spelling.{text_fine, is_fine}
use Rattle.amqp_packed.specs.Typed.{of_str8, of_map}
use Rattle.exchange_core.specs.declared.marks.Kind.{Kind}
use Rattle.exchange_core.specs.declared.marks.Kind.TheVariants as kinds
use Rattle.broker_core.specs.Exchange.{kind_name}
use Rattle.broker_core.specs.Verdict.{or_empty}
use Rattle.broker_core.specs.Sound.{map_fine}

pub first_of : (a b : Bool) → a && b ≡ true → a ≡ true
first_of true b e = refl
first_of false b e = absurd (true≢false (sym e))

rest_of : (a b : Bool) → a && b ≡ true → b ≡ true
rest_of true b e = e
rest_of false b e = absurd (true≢false (sym e))

head_fine : (x : Field) (xs : List Field) → list_all is_fine (x ∷ xs) ≡ true → is_fine x ≡ true
head_fine x xs e = first_of (is_fine x) (list_all is_fine xs) e

tail_fine : (x : Field) (xs : List Field) → list_all is_fine (x ∷ xs) ≡ true → list_all is_fine xs ≡ true
tail_fine x xs e = rest_of (is_fine x) (list_all is_fine xs) e

text_of : (name : Option (List ℕ)) → is_fine (of_str8 name) ≡ true → text_fine One (or_empty name) ≡ true
unfolding is_utf8 chars
text_of None e = refl
text_of (Some name) e = e

map_of : (arguments : Option Value) → is_fine (of_map arguments) ≡ true → map_fine arguments ≡ true
map_of None e = refl
map_of (Some value) e = e

-- queue.query
pub query_fine : (name : Option (List ℕ)) → list_all is_fine (of_str8 name ∷ []) ≡ true → text_fine One (or_empty name) ≡ true
query_fine name e = text_of name (head_fine (of_str8 name) [] e)

-- the alternate exchange of queue.declare
pub alternate_fine : (name alternate : Option (List ℕ)) (rest : List Field) → list_all is_fine (of_str8 name ∷ of_str8 alternate ∷ rest) ≡ true → text_fine One (or_empty alternate) ≡ true
alternate_fine name alternate rest e = text_of alternate (head_fine (of_str8 alternate) rest (tail_fine (of_str8 name) (of_str8 alternate ∷ rest) e))

module _ (a b c d e f : Field) (arguments : Option Value) where
  -- arguments behind six fields
  pub arguments_fine : list_all is_fine (a ∷ b ∷ c ∷ d ∷ e ∷ f ∷ of_map arguments ∷ []) ≡ true → map_fine arguments ≡ true
  arguments_fine h =
      let rest = of_map arguments ∷ [] in
      map_of
      arguments
      (head_fine (of_map arguments) []
      (tail_fine f rest
      (tail_fine e (f ∷ rest)
      (tail_fine d (e ∷ f ∷ rest)
      (tail_fine c (d ∷ e ∷ f ∷ rest)
      (tail_fine b (c ∷ d ∷ e ∷ f ∷ rest)
      (tail_fine a (b ∷ c ∷ d ∷ e ∷ f ∷ rest) h)))))))

-- the words of the types are short
pub kind_fits : (kind : Kind) → fits One (length (kind_name kind)) ≡ true
kind_fits kinds.Direct = refl
kind_fits kinds.Fanout = refl
kind_fits kinds.Topic = refl
kind_fits kinds.Headers = refl
