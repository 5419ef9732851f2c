-- Fields that fit a table are those that a command makes of them again.
use Rattle.std.proofs.Common.{◌≡◌, true, List, [], ◌∷◌, length, refl, sym, ap, subst, ◌∙◌, arith}
use Rattle.std.proofs.lemmas.List.{nil_from_length}
use Rattle.amqp_packed.specs.declared.field.FieldKind.{FieldKind}
use Rattle.amqp_packed.specs.declared.field.FieldKind.TheVariants as k
use Rattle.amqp_packed.specs.declared.field.Field.{Field}
use Rattle.amqp_packed.specs.declared.field.Field.TheVariants as f
use Rattle.amqp_packed.specs.Spelling.{Stands, Alike}
use Rattle.amqp_packed.specs.Typed.{first, others, as_bit, of_bit, as_u8, of_u8, as_u16, of_u16, as_u32, of_u32, as_u64, of_u64, as_str8, of_str8, as_str16, of_str16, as_vbin8, of_vbin8, as_vbin16, of_vbin16, as_vbin32, of_vbin32, as_uuid, of_uuid, as_datetime, of_datetime, as_map, of_map, as_array, of_array, as_ranges, of_ranges, as_struct32, of_struct32, as_xid, of_xid, as_reply_to, of_reply_to}

-- a field as a command keeps it
abbrev pub round_one : FieldKind → Field → Field
round_one k.Bit x = of_bit (as_bit x)
round_one k.U8 x = of_u8 (as_u8 x)
round_one k.U16 x = of_u16 (as_u16 x)
round_one k.U32 x = of_u32 (as_u32 x)
round_one k.U64 x = of_u64 (as_u64 x)
round_one k.Str8 x = of_str8 (as_str8 x)
round_one k.Str16 x = of_str16 (as_str16 x)
round_one k.Vbin8 x = of_vbin8 (as_vbin8 x)
round_one k.Vbin16 x = of_vbin16 (as_vbin16 x)
round_one k.Vbin32 x = of_vbin32 (as_vbin32 x)
round_one k.Uuid x = of_uuid (as_uuid x)
round_one k.Datetime x = of_datetime (as_datetime x)
round_one k.Map x = of_map (as_map x)
round_one k.Array x = of_array (as_array x)
round_one k.Ranges x = of_ranges (as_ranges x)
round_one k.Struct32 x = of_struct32 (as_struct32 x)
round_one k.Xid x = of_xid (as_xid x)
round_one k.ReplyTo x = of_reply_to (as_reply_to x)

abbrev pub rounds : List FieldKind → List Field → List Field
rounds [] fields = []
rounds (kind ∷ kinds) fields = round_one kind (first fields) ∷ rounds kinds (others fields)

absent_stays : (kind : FieldKind) → round_one kind f.Absent ≡ f.Absent
absent_stays k.Bit = refl
absent_stays k.U8 = refl
absent_stays k.U16 = refl
absent_stays k.U32 = refl
absent_stays k.U64 = refl
absent_stays k.Str8 = refl
absent_stays k.Str16 = refl
absent_stays k.Vbin8 = refl
absent_stays k.Vbin16 = refl
absent_stays k.Vbin32 = refl
absent_stays k.Uuid = refl
absent_stays k.Datetime = refl
absent_stays k.Map = refl
absent_stays k.Array = refl
absent_stays k.Ranges = refl
absent_stays k.Struct32 = refl
absent_stays k.Xid = refl
absent_stays k.ReplyTo = refl

one_stays : (kind : FieldKind) (x : Field) → Stands kind x → round_one kind x ≡ x
one_stays kind f.Absent h = absent_stays kind
one_stays kind f.Bit h = subst (λ kind'. round_one kind' f.Bit ≡ f.Bit) (sym h) refl
one_stays kind (f.U8 y) h = subst (λ kind'. round_one kind' (f.U8 y) ≡ f.U8 y) (sym h) refl
one_stays kind (f.U16 y) h = subst (λ kind'. round_one kind' (f.U16 y) ≡ f.U16 y) (sym h) refl
one_stays kind (f.U32 y) h = subst (λ kind'. round_one kind' (f.U32 y) ≡ f.U32 y) (sym h) refl
one_stays kind (f.U64 y) h = subst (λ kind'. round_one kind' (f.U64 y) ≡ f.U64 y) (sym h) refl
one_stays kind (f.Str8 y) h = subst (λ kind'. round_one kind' (f.Str8 y) ≡ f.Str8 y) (sym h) refl
one_stays kind (f.Str16 y) h = subst (λ kind'. round_one kind' (f.Str16 y) ≡ f.Str16 y) (sym h) refl
one_stays kind (f.Vbin8 y) h = subst (λ kind'. round_one kind' (f.Vbin8 y) ≡ f.Vbin8 y) (sym h) refl
one_stays kind (f.Vbin16 y) h = subst (λ kind'. round_one kind' (f.Vbin16 y) ≡ f.Vbin16 y) (sym h) refl
one_stays kind (f.Vbin32 y) h = subst (λ kind'. round_one kind' (f.Vbin32 y) ≡ f.Vbin32 y) (sym h) refl
one_stays kind (f.Uuid y) h = subst (λ kind'. round_one kind' (f.Uuid y) ≡ f.Uuid y) (sym h) refl
one_stays kind (f.Datetime y) h = subst (λ kind'. round_one kind' (f.Datetime y) ≡ f.Datetime y) (sym h) refl
one_stays kind (f.Map y) h = subst (λ kind'. round_one kind' (f.Map y) ≡ f.Map y) (sym h) refl
one_stays kind (f.Array y) h = subst (λ kind'. round_one kind' (f.Array y) ≡ f.Array y) (sym h) refl
one_stays kind (f.Ranges y) h = subst (λ kind'. round_one kind' (f.Ranges y) ≡ f.Ranges y) (sym h) refl
one_stays kind (f.Struct32 y) h = subst (λ kind'. round_one kind' (f.Struct32 y) ≡ f.Struct32 y) (sym h) refl
one_stays kind (f.Xid y) h = subst (λ kind'. round_one kind' (f.Xid y) ≡ f.Xid y) (sym h) refl
one_stays kind (f.ReplyTo y) h = subst (λ kind'. round_one kind' (f.ReplyTo y) ≡ f.ReplyTo y) (sym h) refl

pub rounds_stay : (kinds : List FieldKind) (fields : List Field) → Alike kinds fields → rounds kinds fields ≡ fields
unfolding Alike
rounds_stay [] fields h = sym (nil_from_length fields h)
rounds_stay (kind ∷ kinds) [] h = absurd h
rounds_stay (kind ∷ kinds) (x ∷ xs) h = ap (λ y. y ∷ rounds kinds xs) (one_stays kind x h.0) ∙ ap (λ ys. x ∷ ys) (rounds_stay kinds xs h.1)
