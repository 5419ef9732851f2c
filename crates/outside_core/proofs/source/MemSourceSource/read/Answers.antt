-- What was copied is the front of the octets that were left.
use Rattle.std.proofs.Common.{◌≡◌, ◌++◌, ◌+◌, ◌≤◌, length, take, drop, sym, ap, arith, ◌∙◌}
use Rattle.std.proofs.lemmas.Grind.{common_steps}
use Rattle.outside_core.specs.Told.{Told}
use Rattle.outside_core.proofs.Fronts.{front_taken}
use Rattle.outside_core.proofs.source.MemSourceSource.read.Goals as goal

pub returns-clause-moves : goal.returns-clause-moves
returns-clause-moves c =
    let n = c.min-count.result in
    let inside = c.self.inside in
    let copied : c.copy_from_slice.new.self ≡ take n (drop inside.at inside.octets.items) = grind (arith, common_steps) in
    let small : n ≤ length (drop inside.at inside.octets.items) = grind (arith, common_steps) in
    let both = front_taken inside.octets.items c.copy_from_slice.new.self (drop n c.args.into.now) inside.at n small copied in
    (grind (arith, common_steps), both.0, sym (ap (λ (t : Told). t.octets) c.self.view_is) ∙ both.1)
