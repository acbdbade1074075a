use Rattle.kept_samples.proofs.AllDoubles.{only_memory}
use Rattle.kept_samples.proofs.laws.no_double_is_refused.Goals as goal

pub returns : goal.returns
returns c asked samples e is r = only_memory asked is r.sample r.fate e r.is r.refusal
