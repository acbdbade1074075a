use Rattle.std.proofs.Common.{◌∙◌, sym, arith}
use Rattle.std.proofs.lemmas.List.{get_or_default}
use Rattle.packed_chunks.proofs.RowLaws.{none_written, one_written, same_by_test}
use Rattle.packed_chunks.proofs.rows.push_rows.Goals as goal

pub loop-i-init : goal.loop-i-init
loop-i-init c = none_written _ _ _ (c.in_ok-reserve.ensures.items ∙ c.requires.none)

pub loop-i-preserved : goal.loop-i-preserved
loop-i-preserved c =
    let same = same_by_test c.sample_of.result c.index-samples-i.result c.if-ne.ensures in
    one_written c.args.form.now c.loop-i.i c.numbers_of-low.result.0 c.numbers_of-low.result.1
    c.loop-i.rows.items _ c.args.samples.now c.requires.form c.loop-i.invariant
    c.numbers_of-low.ensures
    (sym c.sample_of.ensures ∙ same ∙ c.index-samples-i.is
    ∙ get_or_default c.args.samples.now c.loop-i.i _ _ (omega arith))
    c.in_ok-push_row.ensures
