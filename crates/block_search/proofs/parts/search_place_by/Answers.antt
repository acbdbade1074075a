use Rattle.std.proofs.Common.{List, sym, subst, ap, ◌∙◌}
use Rattle.std.specs.Prelude.{IfOk, false}
use Rattle.std.proofs.lemmas.Option.{slice_get_past}
use Rattle.postings.specs.declared.part_name.PartName.TheVariants.{Block as BlockName, Head}
use Rattle.block.specs.Blocks.{Shown}
use Rattle.head.specs.Heads.{HeadSeries, head_part}
use Rattle.head.specs.Shown.{series_of}
use Rattle.block_search.specs.Skipping.{AskedPart, is_skipped}
use Rattle.block_search.specs.Places.{block_or_head}
use Rattle.block_search.specs.Answers.{IsAnswerOf}
use Rattle.block_search.proofs.Answering.{named_answer}
use Rattle.block_search.proofs.parts.search_place_by.Goals as goal

pub returns-in-Some : goal.returns-in-Some
returns-in-Some g c =
    let query = c.args.query.now in
    let snapshot = c.args.snapshot.now in
    let place = c.args.place in
    let block : Shown = c.in-Some.block.now in
    let said = c.search_block.ensures in
    let asked : AskedPart = record {
      name = BlockName place;
      part = block.part;
      skipped = is_skipped
          query block.range;
    } in
    subst (λ (p : AskedPart). IfOk c.search_block.result (IsAnswerOf query p))
    (ap (block_or_head query snapshot place) (sym c.in-Some.ensures.some))
    (named_answer query asked c.search_block.result said.is_part said.part said.answers)

pub returns-in-None : goal.returns-in-None
returns-in-None g c =
    let query = c.args.query.now in
    let snapshot = c.args.snapshot.now in
    let place = c.args.place in
    let said = c.search_head.ensures in
    let asked : List HeadSeries → AskedPart = λ head. record {
      name = Head;
      part = head_part head;
      skipped = false;
    } in
    subst (λ (p : AskedPart). IfOk c.search_head.result (IsAnswerOf query p))
    (ap asked c.head.ensures.series ∙ ap (block_or_head query snapshot place)
    (sym (slice_get_past snapshot.blocks place c.in-None.ensures.none)))
    (named_answer query (asked (series_of c.head.result.now)) c.search_head.result said.is_part
    said.part said.answers)
