use Rattle.metrics_laws.proofs.Texts.{all_said}
use Rattle.metrics_laws.proofs.laws.contents_are_read_again.Goals as goal

pub returns : goal.returns
returns c rows content rise are = all_said rows content rise are.points
