-- A new assembler took nothing.
use Rattle.std.proofs.Common.{refl}
use Rattle.octet_tools.specs.Course.{limits}
use Rattle.octet_tools.proofs.Taking.{new_took}
use Rattle.octet_tools.proofs.course.open_behind.Goals as goal

pub returns-clause-took : goal.returns-clause-took
returns-clause-took c = new_took c.new.result 8 (c.new.ensures limits (λ p le. refl))
