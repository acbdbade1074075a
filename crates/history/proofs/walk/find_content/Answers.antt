use Rattle.std.proofs.Common.{◌≡◌, List, [], ◌∷◌, ◌++◌, map, take, ap, sym, ◌∙◌}
use Rattle.std.proofs.lemmas.List.{map_more, take_all}
use Rattle.block.specs.Blocks.{Shown}
use Rattle.labels.specs.Rows.{points_of}
use Rattle.labels.specs.Parts.{Part, rows_in, laid_over, content_of}
use Rattle.head.specs.Heads.{BlockPart, HeadSeries, head_part}
use Rattle.matchers.specs.Queries.{selected_by}
use Rattle.history.specs.Asking.{part_within}
use Rattle.history.proofs.Laying.{selected-part, selected_within}
use Rattle.history.proofs.Listing.{parts_in_blocks}
use Rattle.history.proofs.walk.find_content.Goals as goal

pub loop-block-preserved : goal.loop-block-preserved
loop-block-preserved c =
    let q = c.args.query.now in
    let blocks : List Shown = c.blocks-block-items.result.now in
    let i = c.loop-block.block-index in
    let block : Shown = c.block-item.result in
    let parts : List Part = map (λ (b : Shown). b.part) (take i blocks) in
    let list_is : c.in_ok-list_all.field-0.items ≡ block.part = c.in_ok-list_all.ensures in
    c.in_ok-lay_part.ensures
    ∙ (λ j. laid_over (selected_by q (points_of (rows_in (list_is j)))) (c.loop-block.invariant j))
    ∙ sym (selected-part q parts block.part)
    ∙ ap (λ (ps : List Part). selected_by q (content_of ps))
    (ap (λ (b : Shown). parts ++ b.part ∷ []) c.block-item.is
    ∙ sym (map_more (λ (b : Shown). b.part) blocks i block c.loop-block-test.true))

pub returns : goal.returns
returns c =
    let q = c.args.query.now in
    let snapshot = c.args.snapshot.now in
    let blocks : List Shown = c.blocks-block-items.result.now in
    let i = c.loop-block.block-index in
    let list_is : c.in_ok-list_head.field-0.items ≡ part_within q (head_part snapshot.head)
    = c.in_ok-list_head.ensures
    ∙ ap (λ (hs : List HeadSeries). part_within q (head_part hs)) c.head.ensures.series in
    let parts_is : map (λ (b : Shown). b.part) (take i blocks)
    ≡ map (λ (b : BlockPart). b.part) snapshot.blocks
    = ap (map (λ (b : Shown). b.part)) (take_all i blocks c.loop-block-test.false)
    ∙ sym (parts_in_blocks blocks)
    ∙ ap (map (λ (b : BlockPart). b.part)) c.blocks-block-items.ensures in
    c.in_ok-lay_part-2.ensures
    ∙ (λ j. laid_over (selected_by q (points_of (rows_in (list_is j)))) (c.loop-block.invariant j))
    ∙ (λ j.
    laid_over (selected_within q (head_part snapshot.head) j)
    (selected_by q (content_of (parts_is j))))
    ∙ sym (selected-part q (map (λ (b : BlockPart). b.part) snapshot.blocks)
    (head_part snapshot.head))
