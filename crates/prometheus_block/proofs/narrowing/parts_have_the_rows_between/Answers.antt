use Rattle.prometheus_block.proofs.Narrower.{rows_narrowed}
use Rattle.prometheus_block.proofs.narrowing.parts_have_the_rows_between.Goals as goal

pub returns : goal.returns
returns g c alike narrow wide = rows_narrowed _ narrow wide alike
