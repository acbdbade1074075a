use Rattle.std.proofs.Common.{◌∙◌}
use Rattle.head.specs.BatchRows.{batch_of_rows}
use Rattle.head.specs.Heads.{world_of}
use Rattle.remote_http.proofs.Sums.{few_left}
use Rattle.remote_http.proofs.write.publish_part.Goals as goal

pub returns-in-Ok-clause-few : goal.returns-in-Ok-clause-few
returns-in-Ok-clause-few g c =
    few_left (world_of c.in-Ok.ensures.sifted.snapshot) (batch_of_rows c.args.part) c.left.result
    (c.left.ensures ∙ c.in-Ok.ensures.sifted.sifted.left)
