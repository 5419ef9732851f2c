-- Who has a channel of a connection, by the code's table.
use Rattle.std.specs.Prelude.{ℕ, ◌==◌, ◌&&◌, List, Option}
use Rattle.std.specs.Map.{lookup}
use Rattle.hub_core.specs.declared.places.Place.{Place}

-- the name in the row of that channel
abbrev pub holder_in : List (Place × List ℕ) → ℕ → ℕ → Option (List ℕ)
holder_in rows connection channel = lookup (λ (p : Place). (p.connection == connection) && (p.channel == channel)) rows
