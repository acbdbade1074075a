use Rattle.std.specs.Prelude.{length}
use Rattle.std.proofs.Common.{◌∙◌}
use Rattle.head.proofs.EventTests.{with_few}
use Rattle.head.proofs.event.Event.is_batch.Goals as goal

pub returns-then-samples-le-MAX_BATCH : goal.returns-then-samples-le-MAX_BATCH
returns-then-samples-le-MAX_BATCH c = c.are_timed.ensures ∙ with_few (length c.args.samples.now) 4096 _ c.if-samples-le-MAX_BATCH.true
