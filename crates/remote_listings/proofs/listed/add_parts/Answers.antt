use Rattle.std.proofs.Common.{ap, sym, ◌∙◌}
use Rattle.std.specs.Prelude.{fold, flat_map}
use Rattle.std.specs.BTreeSet.{insert_key}
use Rattle.std.proofs.lemmas.List.Sums.{fold-append}
use Rattle.std.proofs.lemmas.Result.{on_ok_weaker}
use Rattle.block.specs.Blocks.{Shown}
use Rattle.head.specs.Heads.{head_part}
use Rattle.labels.specs.Labels.{labels_cmp}
use Rattle.remote_listings.specs.Listed.{found_in_part}
use Rattle.remote_listings.proofs.Found.{found_in_all}
use Rattle.remote_listings.proofs.listed.add_parts.Goals as goal

pub returns : goal.returns
returns c =
    let query = c.args.query.now in
    let s = c.args.snapshot.now in
    let old = c.args.sets.now.keys in
    let blocks = flat_map (λ (b : Shown). found_in_part query b.part) c.blocks-2.result.now in
    let head = found_in_part query (head_part s.head) in
    on_ok_weaker c.add_part.result
    (λ e. e
    ∙ ap (λ part. fold (insert_key labels_cmp) c.add_blocks.new.sets.keys
    (found_in_part query (head_part part))) c.head.ensures.series
    ∙ ap (λ keys. fold (insert_key labels_cmp) keys head) c.in_ok-add_blocks.ensures
    ∙ sym (fold-append (insert_key labels_cmp) old blocks head)
    ∙ ap (fold (insert_key labels_cmp) old)
    (sym (found_in_all query s c.blocks-2.result.now c.blocks-2.ensures)))
    c.add_part.ensures
