-- The session's list is empty where it is given back.
use Rattle.std.proofs.Common.{rules, ◌≡◌, ◌∙◌, true, is_none, sym}
use Rattle.held_copies.proofs.Tying.{forget_fits, none_of}
use Rattle.held_copies.proofs.copies.forget.Goals as goal

pub returns-then-is_none-clause-fits : goal.returns-then-is_none-clause-fits
returns-then-is_none-clause-fits g c =
    let told : is_none c.first_held.result ≡ true = search rules in
    forget_fits c.args.lanes.now c.give_back.new.self c.args.copies.now.lists c.requires.fits c.in-Some-Session.session c.in-Some.lane (sym c.lane.ensures.lane ∙ c.in-Some.is) c.give_back.ensures.others
    (none_of c.first_held.result told c.first_held.ensures.none)
