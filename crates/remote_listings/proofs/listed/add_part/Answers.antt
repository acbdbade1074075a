use Rattle.std.proofs.Common.{ap, ◌∙◌}
use Rattle.std.specs.Prelude.{fold}
use Rattle.std.specs.List.{filter_map}
use Rattle.std.specs.BTreeSet.{insert_key}
use Rattle.std.proofs.lemmas.Result.{on_ok_weaker}
use Rattle.labels.specs.Labels.{labels_cmp}
use Rattle.remote_listings.specs.Finding.{labels_of_interval}
use Rattle.remote_listings.proofs.Found.{matched_labels}
use Rattle.remote_listings.proofs.listed.add_part.Goals as goal

pub returns : goal.returns
returns g c =
    let part = g.S.Source.part c.args.source.now in
    on_ok_weaker c.add_matches.result
    (λ e. e
    ∙ ap (λ is. fold (insert_key labels_cmp) c.args.sets.now.keys
    (filter_map (labels_of_interval part) is)) c.as_slice.ensures.value
    ∙ ap (fold (insert_key labels_cmp) c.args.sets.now.keys)
    (matched_labels c.args.query.now part c.in_ok-cover.cover.certificate.items
    (g.met.S.Source.is_part c.args.source.now).ascending c.in_ok-cover.ensures.matches))
    c.add_matches.ensures
