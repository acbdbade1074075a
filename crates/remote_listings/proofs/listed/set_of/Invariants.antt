use Rattle.std.proofs.Common.{◌≡◌, [], drop}
use Rattle.std.specs.Prelude.{fold, flat_map}
use Rattle.std.specs.BTreeSet.{insert_key}
use Rattle.labels.specs.Labels.{labels_cmp}
use Rattle.remote_listings.specs.Listed.{found_by, found_in}
use Rattle.remote_listings.proofs.listed.set_of.Given as goal

abbrev pub invariant-loop-query : goal.invariant-loop-query
invariant-loop-query l =
    fold (insert_key labels_cmp) l.sets.keys
    (flat_map (found_in l.snapshot) (drop l.query-index l.queries))
    ≡ fold (insert_key labels_cmp) [] (found_by l.snapshot l.queries)
