use Rattle.journal.specs.Contents.{contents_in}
use Rattle.head_record.proofs.Contents.{only_saved}
use Rattle.head_record.proofs.reading.read_head.Goals as goal

pub returns-clause-only : goal.returns-clause-only
returns-clause-only c saved rest h is =
    only_saved (contents_in c.args.contents.now) c.head_of.result saved rest
    c.head_of.ensures.exact h is
