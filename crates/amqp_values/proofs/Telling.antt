-- What each variant tells, by its layer.
use Rattle.std.proofs.Common.{◌≡◌, ℕ, List, map, sym, ap, ◌∙◌}
use Rattle.amqp_values.specs.declared.value.Pair.{Pair}
use Rattle.amqp_values.specs.declared.value.Value.{Value}
use Rattle.amqp_values.specs.declared.value.Value.TheVariants as v
use Rattle.amqp_values.specs.declared.value.Value.TheVariants.{rolls-Fixed, rolls-Text8, rolls-Text16, rolls-Bin, rolls-Map, rolls-List, rolls-Array, rolls-Struct32, rolls-Bare, rolls-Void, rolls-Bit}
use Rattle.amqp_values.specs.declared.value.Value.TheOpen.{Value-F}
use Rattle.amqp_values.specs.declared.value.Value.TheFolds.{fold-roll-Value}
use Rattle.amqp_values.specs.Spelling.{Told, told, told_by, told_pair}

pub told_fixed : (code : ℕ) (octets : List ℕ) → (told (v.Fixed code octets)) ≡ told_by (Value-F.Fixed code octets)
unfolding told
told_fixed code octets = ap told (sym (rolls-Fixed code octets)) ∙ fold-roll-Value Told told_by (Value-F.Fixed code octets)

pub told_text8 : (text : List ℕ) → (told (v.Text8 text)) ≡ told_by (Value-F.Text8 text)
unfolding told
told_text8 text = ap told (sym (rolls-Text8 text)) ∙ fold-roll-Value Told told_by (Value-F.Text8 text)

pub told_text16 : (text : List ℕ) → (told (v.Text16 text)) ≡ told_by (Value-F.Text16 text)
unfolding told
told_text16 text = ap told (sym (rolls-Text16 text)) ∙ fold-roll-Value Told told_by (Value-F.Text16 text)

pub told_bin : (code : ℕ) (octets : List ℕ) → (told (v.Bin code octets)) ≡ told_by (Value-F.Bin code octets)
unfolding told
told_bin code octets = ap told (sym (rolls-Bin code octets)) ∙ fold-roll-Value Told told_by (Value-F.Bin code octets)

pub told_map : (pairs : List (Pair Value)) → (told (v.Map pairs)) ≡ told_by (Value-F.Map (map told_pair pairs))
unfolding told
told_map pairs = ap told (sym (rolls-Map pairs)) ∙ fold-roll-Value Told told_by (Value-F.Map pairs)

pub told_list : (items : List Value) → (told (v.List items)) ≡ told_by (Value-F.List (map told items))
unfolding told
told_list items = ap told (sym (rolls-List items)) ∙ fold-roll-Value Told told_by (Value-F.List items)

pub told_array : (code : ℕ) (items : List Value) → (told (v.Array code items)) ≡ told_by (Value-F.Array code (map told items))
unfolding told
told_array code items = ap told (sym (rolls-Array code items)) ∙ fold-roll-Value Told told_by (Value-F.Array code items)

pub told_struct32 : (octets : List ℕ) → (told (v.Struct32 octets)) ≡ told_by (Value-F.Struct32 octets)
unfolding told
told_struct32 octets = ap told (sym (rolls-Struct32 octets)) ∙ fold-roll-Value Told told_by (Value-F.Struct32 octets)

pub told_bare : (code : ℕ) → (told (v.Bare code)) ≡ told_by (Value-F.Bare code)
unfolding told
told_bare code = ap told (sym (rolls-Bare code)) ∙ fold-roll-Value Told told_by (Value-F.Bare code)

pub told_void : (told v.Void) ≡ told_by Value-F.Void
unfolding told
told_void = ap told (sym rolls-Void) ∙ fold-roll-Value Told told_by Value-F.Void

pub told_bit : (told v.Bit) ≡ told_by Value-F.Bit
unfolding told
told_bit = ap told (sym rolls-Bit) ∙ fold-roll-Value Told told_by Value-F.Bit

pub ruleset tellings = (told_fixed, told_text8, told_text16, told_bin, told_map, told_list, told_array, told_struct32, told_bare, told_void, told_bit)
