use Rattle.cover.proofs.Least.{leftmost_least, leftmost_separates, separators_bound}
use Rattle.cover.proofs.Unique.{leftmost_unique}
use Rattle.cover.proofs.Matching.{valid_matches}
use Rattle.cover.proofs.certificate.certificate_laws.Goals as goal

pub returns-clause-least : goal.returns-clause-least
returns-clause-least c = leftmost_least

pub returns-clause-unique : goal.returns-clause-unique
returns-clause-unique c = leftmost_unique

pub returns-clause-separated : goal.returns-clause-separated
returns-clause-separated c = leftmost_separates

pub returns-clause-bounded : goal.returns-clause-bounded
returns-clause-bounded c = λ a d separators. separators_bound a separators d

pub returns-clause-matched : goal.returns-clause-matched
returns-clause-matched c = valid_matches
