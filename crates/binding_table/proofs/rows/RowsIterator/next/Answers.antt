-- The next row is the first of what is left.
use Rattle.std.proofs.Common.{rules, arith, ◌≡◌, ◌∙◌, ◌∷◌, Some, None, length, sym, ap, subst}
use Rattle.slab.specs.Slab.{get}
use Rattle.sorted_map.specs.Cuts.{collect}
use Rattle.sorted_map.proofs.Sorting.{IsShown, first_shown, none_shown, rest_shown}
use Rattle.binding_table.proofs.rows.RowsIterator.next.Goals as goal

pub unreachable-requires : goal.unreachable-requires
unreachable-requires g c =
    let parted : c.self.inside.keys.now ≡ c.in_ok-key.key.now ∷ c.in_ok-key.rest.now = search rules in
    let gone : get c.self.inside.rows.now c.in_ok-key.key.now ≡ None = search rules in
    none_shown (get c.self.inside.rows.now) c.in_ok-key.key.now c.in_ok-key.rest.now (subst (IsShown (get c.self.inside.rows.now)) parted c.self.invariant) gone

pub invariant_of-self : goal.invariant_of-self
invariant_of-self g c =
    let parted : c.self.inside.keys.now ≡ c.in_ok-key.key.now ∷ c.in_ok-key.rest.now = search rules in
    let found : get c.self.inside.rows.now c.in_ok-key.key.now ≡ Some c.in-Some.row.now = search rules in
    rest_shown (get c.self.inside.rows.now) c.in_ok-key.key.now c.in_ok-key.rest.now (subst (IsShown (get c.self.inside.rows.now)) parted c.self.invariant) c.in-Some.row.now found

pub returns-clause-steps : goal.returns-clause-steps
returns-clause-steps g c =
    let parted : c.self.inside.keys.now ≡ c.in_ok-key.key.now ∷ c.in_ok-key.rest.now = search rules in
    let found : get c.self.inside.rows.now c.in_ok-key.key.now ≡ Some c.in-Some.row.now = search rules in
    sym c.self.view_is
    ∙ (ap (collect (get c.self.inside.rows.now)) parted
    ∙ first_shown (get c.self.inside.rows.now) c.in_ok-key.key.now c.in_ok-key.rest.now (subst (IsShown (get c.self.inside.rows.now)) parted c.self.invariant) c.in-Some.row.now found)

pub returns-clause-goes : goal.returns-clause-goes
returns-clause-goes g c = record {
  on = λ _. (tt, tt, omega (arith, ap length (returns-clause-steps g c)));
  keeps = tt;
  rests = λ _. tt;
}
