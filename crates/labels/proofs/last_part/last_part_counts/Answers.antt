use Rattle.labels.proofs.LastParts.{content_points, content_sorted}
use Rattle.labels.proofs.last_part.last_part_counts.Goals as goal

pub returns-clause-points : goal.returns-clause-points
returns-clause-points c = λ parts are labels sample. content_points parts labels sample are

pub returns-clause-once : goal.returns-clause-once
returns-clause-once c = content_sorted
