-- The subscription that is lent is the one at the place.
use Rattle.std.proofs.Common.{rules}
use Rattle.credit_core.specs.Turns.{changed_by}
use Rattle.credit_core.proofs.Places.{set_place, past_place}
use Rattle.credit_core.proofs.subs.change_at.Goals as goal

pub returns-in-Some-clause-places : goal.returns-in-Some-clause-places
returns-in-Some-clause-places c =
    set_place (changed_by c.args.change) c.args.places.now.items c.args.place c.in-Some.state.now c.change.new.self (search rules) (search rules) c.change.ensures

pub returns-in_default-clause-places : goal.returns-in_default-clause-places
returns-in_default-clause-places c = past_place (changed_by c.args.change) c.args.places.now.items c.args.place (search rules)
