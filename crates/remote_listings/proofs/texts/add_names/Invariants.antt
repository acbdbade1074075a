use Rattle.std.proofs.Common.{◌≡◌, drop}
use Rattle.std.specs.Prelude.{fold, flat_map}
use Rattle.std.specs.BTreeSet.{insert_key}
use Rattle.labels.specs.Labels.{text_cmp}
use Rattle.remote_listings.specs.Sets.{bytes_in}
use Rattle.remote_listings.proofs.TextSets.{name_of}
use Rattle.remote_listings.proofs.texts.add_names.Given as goal

abbrev pub invariant-loop-at : goal.invariant-loop-at
invariant-loop-at l =
    fold (insert_key text_cmp) (bytes_in l.names) (flat_map name_of (drop l.at l.labels))
    ≡ fold (insert_key text_cmp) (bytes_in l.fn.names) (flat_map name_of l.labels)
