use Rattle.std.proofs.Common.{ap, sym, ◌∙◌}
use Rattle.std.specs.Prelude.{fold}
use Rattle.std.specs.BTreeSet.{insert_key}
use Rattle.labels.specs.Labels.{labels_cmp}
use Rattle.block_search.specs.Skipping.{is_skipped}
use Rattle.block_search.proofs.Skips.{none_outside}
use Rattle.remote_listings.proofs.Found.{none_found}
use Rattle.remote_listings.proofs.listed.add_block.Goals as goal

pub returns-then-is_skipped : goal.returns-then-is_skipped
returns-then-is_skipped c =
    let query = c.args.query.now in
    let block = c.args.block.now in
    let skipped = sym (c.is_skipped.ensures ∙ ap (is_skipped query) c.range.ensures.range)
    ∙ c.if-is_skipped.true in
    ap (fold (insert_key labels_cmp) c.args.sets.now.keys)
    (sym (none_found query block.part
    (none_outside block.range query.from query.to block.part skipped c.range.ensures.inside)))
