use Rattle.std.proofs.Common.{◌≡◌, [], drop}
use Rattle.std.specs.Prelude.{fold, flat_map}
use Rattle.std.specs.BTreeSet.{insert_key}
use Rattle.labels.specs.Labels.{text_cmp}
use Rattle.remote_listings.specs.Listed.{names_in}
use Rattle.remote_listings.specs.Sets.{bytes_in}
use Rattle.remote_listings.proofs.texts.name_set.Given as goal

abbrev pub invariant-loop-labels : goal.invariant-loop-labels
invariant-loop-labels l =
    fold (insert_key text_cmp) (bytes_in l.names) (flat_map names_in (drop l.labels-index l.sets))
    ≡ fold (insert_key text_cmp) [] (flat_map names_in l.sets)
