use Rattle.std.proofs.Common.{◌≡◌, drop}
use Rattle.std.specs.Prelude.{fold}
use Rattle.std.specs.List.{filter_map}
use Rattle.std.specs.BTreeSet.{insert_key}
use Rattle.labels.specs.Labels.{labels_cmp}
use Rattle.remote_listings.specs.Finding.{labels_of_interval}
use Rattle.remote_listings.proofs.listed.add_matches.Given as goal

abbrev pub invariant-loop-interval : goal.invariant-loop-interval
invariant-loop-interval g l =
    fold (insert_key labels_cmp) l.sets.keys
    (filter_map (labels_of_interval (g.S.Source.part l.source))
    (drop l.interval-index l.certificate))
    ≡ fold (insert_key labels_cmp) l.fn.sets.keys
    (filter_map (labels_of_interval (g.S.Source.part l.source)) l.certificate)
