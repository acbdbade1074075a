use Rattle.std.proofs.Common.{rules}
use Rattle.packed_chunks.proofs.RowLaws.{means}
use Rattle.packed_chunks.proofs.chunk.write_rows.Goals as goal

pub returns-then-whole-clause-means : goal.returns-then-whole-clause-means
returns-then-whole-clause-means c =
    means c.choose-form.result c.push_rows.new.rows.items c.args.samples.now c.choose-form.ensures
    (c.in_ok-whole.ensures.reads (search rules))

pub returns-clause-means : goal.returns-clause-means
returns-clause-means c =
    means c.plain-form.result c.push_plain_rows.new.rows.items c.args.samples.now (search rules)
    c.in_ok-push_plain_rows.ensures.reads
