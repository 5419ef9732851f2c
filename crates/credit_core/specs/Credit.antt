-- Credit of a subscription, as deliveries take from it and as it is given (AMQP 0-10, "message.flow").
use Rattle.std.specs.Prelude.{◌≡◌, ℕ, ◌+◌, ◌-◌, nat_le, nat_lt, Bool, true, if◌then◌else◌}
use Rattle.credit_core.specs.declared.credit.Credit.{Credit}
use Rattle.credit_core.specs.declared.credit.Credit.TheVariants.{Left, Unlimited}

-- whether a delivery of this cost may be made
abbrev pub suffices : Credit → ℕ → Bool
suffices (Left n) cost = nat_le cost n
suffices Unlimited cost = true

abbrev pub Suffices : Credit → ℕ → Type 0
Suffices credit cost = suffices credit cost ≡ true

-- the credit after a delivery of this cost
abbrev pub spent : Credit → ℕ → Credit
spent (Left n) cost = Left (n - cost)
spent Unlimited cost = Unlimited

-- the credit with so much more; from the greatest 32-bit number on it is unlimited
abbrev pub added : Credit → ℕ → Credit
added (Left n) more = if nat_lt (n + more) 4294967295 then Left (n + more) else Unlimited
added Unlimited more = Unlimited
