-- A search for the first LF tells where it stands.
use Rattle.line_runs.proofs.BreakLemmas.{breaks_of}
use Rattle.line_runs.proofs.reading.line_feed.Goals as goal

pub returns : goal.returns
returns c = breaks_of c.memchr.result c.args.octets.now c.memchr.ensures
