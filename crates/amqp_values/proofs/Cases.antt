-- A value is one of its variants.
use Rattle.std.proofs.Common.{ℕ, List, sym, subst}
use Rattle.amqp_values.specs.declared.value.Pair.{Pair}
use Rattle.amqp_values.specs.declared.value.Value.{Value}
use Rattle.amqp_values.specs.declared.value.Value.TheVariants as v
use Rattle.amqp_values.specs.declared.value.Value.TheVariants.{rolls-Fixed, rolls-Text8, rolls-Text16, rolls-Bin, rolls-Map, rolls-List, rolls-Array, rolls-Struct32, rolls-Bare, rolls-Void, rolls-Bit}
use Rattle.amqp_values.specs.declared.value.Value.TheOpen.{Value-F}
use Rattle.amqp_values.specs.declared.value.Value.TheViews.{out-Value, roll-Value, roll-out-Value}

pub record Cases (Q : Value → Type 0) : Type 0 where
  pub fixed : (code : ℕ) (octets : List ℕ) → Q (v.Fixed code octets)
  pub text8 : (text : List ℕ) → Q (v.Text8 text)
  pub text16 : (text : List ℕ) → Q (v.Text16 text)
  pub bin : (code : ℕ) (octets : List ℕ) → Q (v.Bin code octets)
  pub map : (pairs : List (Pair Value)) → Q (v.Map pairs)
  pub list : (items : List Value) → Q (v.List items)
  pub array : (code : ℕ) (items : List Value) → Q (v.Array code items)
  pub struct32 : (octets : List ℕ) → Q (v.Struct32 octets)
  pub bare : (code : ℕ) → Q (v.Bare code)
  pub void : Q v.Void
  pub bit : Q v.Bit

by_layer : (Q : Value → Type 0) → Cases Q → (x : Value-F Value) → Q (roll-Value x)
by_layer Q c (Value-F.Fixed code octets) = subst Q (sym (rolls-Fixed code octets)) (c.fixed code octets)
by_layer Q c (Value-F.Text8 text) = subst Q (sym (rolls-Text8 text)) (c.text8 text)
by_layer Q c (Value-F.Text16 text) = subst Q (sym (rolls-Text16 text)) (c.text16 text)
by_layer Q c (Value-F.Bin code octets) = subst Q (sym (rolls-Bin code octets)) (c.bin code octets)
by_layer Q c (Value-F.Map pairs) = subst Q (sym (rolls-Map pairs)) (c.map pairs)
by_layer Q c (Value-F.List items) = subst Q (sym (rolls-List items)) (c.list items)
by_layer Q c (Value-F.Array code items) = subst Q (sym (rolls-Array code items)) (c.array code items)
by_layer Q c (Value-F.Struct32 octets) = subst Q (sym (rolls-Struct32 octets)) (c.struct32 octets)
by_layer Q c (Value-F.Bare code) = subst Q (sym (rolls-Bare code)) (c.bare code)
by_layer Q c Value-F.Void = subst Q (sym rolls-Void) c.void
by_layer Q c Value-F.Bit = subst Q (sym rolls-Bit) c.bit

pub by_cases : (Q : Value → Type 0) → Cases Q → (value : Value) → Q value
by_cases Q c value = subst Q (roll-out-Value value) (by_layer Q c (out-Value value))
