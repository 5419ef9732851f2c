-- All but the released copy is held as before.
use Rattle.std.proofs.Common.{sym, subst, List}
use Rattle.queue_copies.specs.Copied.{Copied}
use Rattle.held_copies.specs.Holding.{Fits}
use Rattle.held_copies.proofs.Tying.{release_fits}
use Rattle.held_copies.proofs.copies.HeldCopies.release.Goals as goal

pub forget-requires-clause-fits : goal.forget-requires-clause-fits
forget-requires-clause-fits g c =
    subst (λ (ls : List (List Copied)). Fits c.self.inside.lanes ls) (sym c.let_go-before.ensures.lists) (release_fits c.self.inside.lanes c.self.inside.copies.lists c.self.invariant.fits c.args.number c.args.redelivered)
