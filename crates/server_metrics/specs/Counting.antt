-- What is counted before anything was.
use Rattle.std.specs.Prelude.{◌≡◌, replicate}
use Rattle.server_metrics.specs.declared.counts.Counts.{Counts}
use Rattle.server_metrics.specs.declared.counts.PathCounts.{PathCounts}

-- nothing was counted of a path
pub record IsUnasked (counts : PathCounts) : Type 0 where
  pub replies : counts.replies ≡ replicate 9 0
  pub times : counts.times.counts ≡ replicate 11 0
  pub microseconds : counts.times.microseconds ≡ 0

-- nothing was counted
pub record IsNothing (counts : Counts) : Type 0 where
  pub select : IsUnasked counts.select
  pub write : IsUnasked counts.write
  pub delete : IsUnasked counts.delete
  pub cut : IsUnasked counts.cut
  pub other : IsUnasked counts.other
  pub refusals : counts.refusals ≡ replicate 13 0
  pub batches : counts.batches ≡ 0
  pub deletions : counts.deletions ≡ 0
  pub cuts : counts.cuts ≡ 0
  pub samples : counts.samples ≡ 0
  pub bytes : counts.bytes ≡ 0
  pub port_replies : counts.port_replies ≡ replicate 9 0
  pub joins : counts.joins ≡ 0
  pub removed : counts.removed ≡ 0
