-- How long what is written is.
use Rattle.std.proofs.Common.{◌≡◌, ◌%◌, true, suc, ◌+◌, ◌*◌, ◌≤◌, List, [], ◌∷◌, length, flat_map, ap, refl, arith}
use Rattle.std.specs.List.{list_all}
use Rattle.std.proofs.lemmas.List.{length-append}
use Rattle.amqp_values.specs.declared.value.Range.{Range}
use Rattle.amqp_values.specs.declared.value.Xid.{Xid}
use Rattle.amqp_values.specs.declared.value.ReplyTo.{ReplyTo}
use Rattle.amqp_packed.specs.declared.field.Field.{Field}
use Rattle.amqp_packed.specs.declared.field.FieldKind.{FieldKind}
use Rattle.amqp_packed.specs.Spelling.{range_octets, xid_content, reply_content, Alike, is_fine, AreOf}

pub ranges_length : (ranges : List Range) → length (flat_map range_octets ranges) ≡ 8 * length ranges
ranges_length [] = refl
ranges_length (range ∷ ranges) = omega (arith, ranges_length ranges)

pub xid_length : (xid : Xid) → length (xid_content xid) ≡ 10 + length xid.global + length xid.branch
unfolding xid_content
xid_length xid = omega (arith, length-append xid.global (length xid.branch % 256 ∷ xid.branch))

stands_together : (table : List FieldKind) (fields : List Field) → Alike table fields → length fields ≡ length table
unfolding Alike
stands_together [] fields h = h
stands_together (kind ∷ table) [] h = absurd h
stands_together (kind ∷ table) (x ∷ xs) h = ap suc (stands_together table xs h.1)

-- as many fields as kinds, each with a spelling
pub fields_fit : (table : List FieldKind) (fields : List Field) → length table ≤ 16 → AreOf table fields → (length fields ≤ 16) × (list_all is_fine fields ≡ true)
fields_fit table fields le h = (omega (arith, stands_together table fields h.0, le), h.1)

pub reply_length : (reply : ReplyTo) → length (reply_content reply) ≡ 4 + length reply.exchange + length reply.routing_key
reply_length reply = omega (arith, length-append reply.exchange (length reply.routing_key % 256 ∷ reply.routing_key))
