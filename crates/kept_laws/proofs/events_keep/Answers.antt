use Rattle.std.proofs.Common.{subst}
use Rattle.kept_laws.proofs.Keeping.{MayBeKept, keep_next}
use Rattle.kept_laws.proofs.events_keep.Goals as goal

pub returns : goal.returns
returns c = λ s u e k h. subst MayBeKept h (keep_next s e k)
