-- What is laid in other frames brings the same units.
use Rattle.octet_tools.proofs.Reframing.{keeps_units}
use Rattle.octet_tools.proofs.run.run_octets.Goals as goal

pub returns-in_default-clause-keeps : goal.returns-in_default-clause-keeps
returns-in_default-clause-keeps g c = keeps_units c.args.tool c.requires

pub returns-clause-keeps : goal.returns-clause-keeps
returns-clause-keeps g c = keeps_units c.args.tool c.requires
