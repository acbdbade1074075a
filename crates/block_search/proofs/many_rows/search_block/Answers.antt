use Rattle.std.proofs.Common.{◌≡◌, sym, subst, ◌∙◌}
use Rattle.std.specs.List.{filter_map}
use Rattle.labels.specs.Parts.{Part}
use Rattle.cover.specs.declared.part_cover.PartAnswer.{PartAnswer}
use Rattle.block.specs.Blocks.{AreInLabelOrder}
use Rattle.block_search.specs.Answering.{row_of_interval}
use Rattle.block_search.specs.Answers.{IsPartAnswer}
use Rattle.block_search.proofs.Sorted.{ordered_answer}
use Rattle.block_search.proofs.many_rows.search_block.Goals as goal

pub returns-clause-answers : goal.returns-clause-answers
returns-clause-answers g c =
    let query = c.args.query.now in
    let part : Part = c.view.result.block.now.part in
    let certificate = c.in_ok-cover.cover.certificate.items in
    let rows = c.in_ok-rows.rows.items in
    let found : rows ≡ filter_map (row_of_interval query.from query.to part) certificate =
    c.in_ok-rows.ensures ∙ (λ i. filter_map (row_of_interval query.from query.to
    (sym c.view.ensures i)) (c.as_slice.ensures.value i)) in
    let answer : PartAnswer = record {
      part = c.args.part;
      rows = c.in_ok-rows.rows;
      cover = c.in_ok-cover.cover;
    } in
    let ordered : AreInLabelOrder part =
    subst AreInLabelOrder (sym c.view.ensures) c.are_in_label_order.ensures in
    subst (λ (p : Part). IsPartAnswer query p answer) c.view.ensures
    (ordered_answer query part c.view.result.is_part ordered answer c.in_ok-cover.ensures found)
