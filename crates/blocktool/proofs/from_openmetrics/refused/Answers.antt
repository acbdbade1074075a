use Rattle.std.proofs.Common.{refl, inr}
use Rattle.blocktool.proofs.from_openmetrics.refused.Goals as goal

pub returns-in-Refused : goal.returns-in-Refused
returns-in-Refused c = inr (c.in-Ok.name, c.in-Refused.refusal, refl, c.in-Refused.is)
