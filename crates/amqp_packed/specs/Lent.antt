-- Fields that are lent.
use Rattle.std.specs.Prelude.{Bool}
use Rattle.amqp_packed.specs.declared.field.Field.{Field}
use Rattle.amqp_packed.specs.declared.field.Field.TheVariants as f
use Rattle.amqp_packed.specs.declared.lent.FieldRef.{FieldRef}
use Rattle.amqp_packed.specs.declared.lent.FieldRef.TheVariants as r
use Rattle.amqp_packed.specs.Spelling.{is_fine}

-- the field itself
abbrev pub lent : FieldRef → Field
lent r.Absent = f.Absent
lent r.Bit = f.Bit
lent (r.U8 it) = f.U8 it
lent (r.U16 it) = f.U16 it
lent (r.U32 it) = f.U32 it
lent (r.U64 it) = f.U64 it
lent (r.Str8 it) = f.Str8 it.now
lent (r.Str16 it) = f.Str16 it.now
lent (r.Vbin8 it) = f.Vbin8 it.now
lent (r.Vbin16 it) = f.Vbin16 it.now
lent (r.Vbin32 it) = f.Vbin32 it.now
lent (r.Uuid it) = f.Uuid it.now
lent (r.Datetime it) = f.Datetime it
lent (r.Map it) = f.Map it.now
lent (r.Array it) = f.Array it.now
lent (r.Ranges it) = f.Ranges it.now
lent (r.Struct32 it) = f.Struct32 it.now
lent (r.Xid it) = f.Xid it.now
lent (r.ReplyTo it) = f.ReplyTo it.now

-- it has a spelling
abbrev pub lent_fine : FieldRef → Bool
lent_fine field = is_fine (lent field)
