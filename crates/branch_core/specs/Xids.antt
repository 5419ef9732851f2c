-- Names of branches in order, and maps from them.
use Rattle.std.specs.Prelude.{List, Option}
use Rattle.std.specs.declared.cmp.Ordering.{Ordering}
use Rattle.amqp_values.specs.declared.value.Xid.{Xid}
use Rattle.amqp_values.specs.contracts.value.XidOrd.TheImpl as order
use Rattle.sorted_map.specs.Map.{find as find_by, put as put_by, out as out_by}

-- by format, then by global-id, then by branch-id, as the type's fields stand
abbrev pub xid_order : Xid → Xid → Ordering
xid_order = (order.cmp-value).it

module _ {T : Type 0} where
  -- what a name stands for
  abbrev pub find : Xid → List (Xid × T) → Option T
  find = find_by xid_order

  -- with a name that isn't there
  abbrev pub put : Xid → T → List (Xid × T) → List (Xid × T)
  put = put_by xid_order

  -- without a name
  abbrev pub out : Xid → List (Xid × T) → List (Xid × T)
  out = out_by xid_order
