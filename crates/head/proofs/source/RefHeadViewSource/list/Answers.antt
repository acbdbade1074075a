use Rattle.head.specs.Heads.{head_part}
use Rattle.head.specs.LendingLaws.{lent_rises}
use Rattle.head.proofs.source.RefHeadViewSource.list.Goals as goal

pub new-requires : goal.new-requires
new-requires c =
    lent_rises c.args.self.now.now.index (head_part c.args.self.now.now.series) c.args.self.now.now.indexed c.args.name.now c.args.value.now c.in-Some.list.now c.args.self.now.now.is_part c.in-Some.ensures.some
