-- The octets that may spell the structs of a header segment: those that are written, and others where a reply-to leaves fields out.
use Rattle.std.specs.Prelude.{◌≡◌, ℕ, List, [], ◌∷◌, flat_map}
use Rattle.octet_reading.specs.declared.part.SizeWidth.TheVariants.{Four}
use Rattle.octet_reading.specs.Spelling.{sized}
use Rattle.amqp_terms.specs.declared.content.HeaderItem.{HeaderItem}
use Rattle.amqp_terms.specs.declared.content.HeaderItem.TheVariants as h
use Rattle.amqp_packed.specs.declared.field.Field.{Field}
use Rattle.amqp_packed.specs.Spelled.{Packs}
use Rattle.amqp_structs.specs.Header.{delivery_fields, message_fields}

-- class, code and fields
pub record FieldsSpelled (class code : ℕ) (fields : List Field) (octets : List ℕ) : Type 0 where
  pub text : List ℕ
  pub is : octets ≡ class ∷ code ∷ text
  pub packs : Packs fields text []

abbrev pub ContentSpelled : HeaderItem → List ℕ → Type 0
ContentSpelled (h.Delivery d) octets = FieldsSpelled 4 1 (delivery_fields d) octets
ContentSpelled (h.Message m) octets = FieldsSpelled 4 3 (message_fields m) octets
ContentSpelled (h.Other class code more) octets = octets ≡ class ∷ code ∷ more

-- a struct behind its size
pub record StructSpelled (item : HeaderItem) (octets : List ℕ) : Type 0 where
  pub content : List ℕ
  pub spelled : ContentSpelled item content
  pub is : octets ≡ sized Four content

unfoldable pub EachStruct : List HeaderItem → List (List ℕ) → Type 0
EachStruct [] texts = texts ≡ []
EachStruct (x ∷ xs) [] = ⊥
EachStruct (x ∷ xs) (text ∷ texts) = StructSpelled x text × EachStruct xs texts

-- one after the other
pub record HeaderSpelled (items : List HeaderItem) (octets : List ℕ) : Type 0 where
  pub texts : List (List ℕ)
  pub each : EachStruct items texts
  pub parts : octets ≡ flat_map (λ text. text) texts
