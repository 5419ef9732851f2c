-- What is found among what is seen.
use Rattle.std.proofs.Common.{◌≡◌, ◌∙◌, List, Option, None, Some, true, is_some, sym, ap, refl}
use Rattle.std.proofs.lemmas.Bool.{true≢false}
use Rattle.std.specs.Option.{option_map}
use Rattle.amqp_values.specs.declared.value.Xid.{Xid}
use Rattle.sorted_map.specs.Map.{seen}
use Rattle.sorted_map.proofs.Showing.{seen_find}
use Rattle.branch_core.specs.Xids.{xid_order, find}

none_of : {T U : Type 0} (look : T → U) (o : Option T) → option_map look o ≡ None → o ≡ None
none_of look None e = refl
none_of look (Some t) e = absurd (true≢false (ap (λ (o : Option _). is_some o) e))

pub not_found : {T U : Type 0} (look : T → U) (xid : Xid) (es : List (Xid × T)) → find xid (seen look es) ≡ None → find xid es ≡ None
not_found look xid es e = none_of look (find xid es) (sym (seen_find look xid_order xid es) ∙ e)

pub is_found : {T U : Type 0} (look : T → U) (xid : Xid) (es : List (Xid × T)) → is_some (find xid (seen look es)) ≡ true → find xid es ≡ None → ⊥
is_found look xid es e none = true≢false (sym e ∙ ap is_some (seen_find look xid_order xid es ∙ ap (option_map look) none))
