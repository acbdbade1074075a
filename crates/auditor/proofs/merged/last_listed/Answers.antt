use Rattle.std.proofs.Common.{List, reverse, ◌∙◌, ap, subst}
use Rattle.std.specs.List.Sorted.{IsStableBy}
use Rattle.auditor.specs.Listing.{listed, point_before}
use Rattle.auditor.proofs.Merging.{Sample, last_is}
use Rattle.auditor.proofs.merged.last_listed.Goals as goal

pub returns : goal.returns
returns c =
    let sorted : List Sample = c.sort_listed.new.all.items in
    c.keep_first.ensures
    ∙ last_is (listed c.args.answers.now) sorted c.in_ok-sort_listed.ensures.sorted
    (subst (λ (xs : List Sample). IsStableBy point_before xs sorted) (c.reverse.ensures.items
    ∙ ap reverse c.in_ok-all.ensures) c.in_ok-sort_listed.ensures.stable)
