-- What is found is seen.
use Rattle.std.proofs.Common.{◌∙◌, ap, sym}
use Rattle.sorted_map.proofs.Showing.{seen_through, seen_find}
use Rattle.std.specs.Option.{option_map}
use Rattle.std.specs.Ordering.{nat_cmp}
use Rattle.branch_core.specs.State.{seated}
use Rattle.branch_core.proofs.seats.seat_of.Goals as goal

pub returns : goal.returns
returns c = seen_through seated c.get.result ∙ (ap (option_map seated) c.get.ensures ∙ sym (seen_find seated nat_cmp c.args.session c.args.seats.now.entries))
