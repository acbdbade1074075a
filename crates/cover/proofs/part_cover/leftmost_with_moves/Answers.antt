use Rattle.std.proofs.Common.{◌≡◌, [], length, map, ap, ◌∙◌, arith, rules, to_z, of_z, w64}
use Rattle.std.proofs.lemmas.Int.{ints}
use Rattle.matchers.specs.Satisfies.{satisfies}
use Rattle.labels.specs.Parts.{references_where, live_references}
use Rattle.cover.proofs.Choices.{part_from, accepted_from, living_from, leftmost_from}
use Rattle.cover.proofs.Farthest.{fresh_same, moves_bound, moved_same, same_lengths}
use Rattle.labels.proofs.SetLemmas.{written_back}
use Rattle.cover.proofs.part_cover.leftmost_with_moves.Goals as goal

pub walk-requires-clause-part : goal.walk-requires-clause-part
walk-requires-clause-part g c =
    part_from (g.S.Source.part c.args.source.now) (g.S.List.Postings.remaining c.new-all.result.0) _
    _ (ap (λ x. g.S.List.Postings.remaining x.0) c.new-all.ensures
    ∙ c.all.ensures) (g.met.S.Source.is_part c.args.source.now)

pub walk-requires-clause-accepted : goal.walk-requires-clause-accepted
walk-requires-clause-accepted g c =
    accepted_from _ c.as_mut_slice.result.now (g.S.List.Postings.remaining c.new-all.result.0)
    (g.S.Live.Postings.remaining c.new-live.result.0) (g.S.Source.part c.args.source.now)
    c.args.query.now.matchers
    (ap (λ x. g.S.List.Postings.remaining x.0) c.new-all.ensures ∙ c.all.ensures)
    (ap (map _) c.as_mut_slice.ensures.value
    ∙ c.in_ok-lists.ensures.lists
    ∙ ap (map (λ m. references_where (λ labels. satisfies m labels)
    (g.S.Source.part c.args.source.now))) c.matchers.ensures.items)
    (g.met.S.Source.is_part c.args.source.now)

pub walk-requires-clause-living : goal.walk-requires-clause-living
walk-requires-clause-living g c =
    living_from _ _ (g.S.Source.part c.args.source.now)
    (g.S.List.Postings.remaining c.new-all.result.0) []
    (g.S.Live.Postings.remaining c.new-live.result.0)
    (ap (λ x. g.S.List.Postings.remaining x.0) c.new-all.ensures ∙ c.all.ensures)
    (ap (λ x. g.S.Live.Postings.remaining x.0) c.new-live.ensures ∙ c.in_ok-live.ensures)
    (g.met.S.Source.is_part c.args.source.now)

pub walk-requires-clause-each_fresh : goal.walk-requires-clause-each_fresh
walk-requires-clause-each_fresh g c =
    fresh_same c.in_ok-lists.lists.items c.as_mut_slice.result.now c.as_mut_slice.ensures.value
    c.in_ok-lists.ensures.fresh

pub returns-clause-leftmost : goal.returns-clause-leftmost
returns-clause-leftmost g c =
    let part = g.S.Source.part c.args.source.now in
    let from_is : to_z w64 (of_z w64 c.from.result) ≡ c.from.result = search rules in
    let to_is : to_z w64 (of_z w64 c.to.result) ≡ c.to.result = grind (arith, ints) in
    leftmost_from part c.args.query.now (g.S.List.Postings.remaining c.new-all.result.0) _
    (g.S.Live.Postings.remaining c.new-live.result.0) c.in_ok-certificate.certificate.items
    (ap (λ x. g.S.List.Postings.remaining x.0) c.new-all.ensures ∙ c.all.ensures)
    (ap (map _) c.as_mut_slice.ensures.value
    ∙ c.in_ok-lists.ensures.lists
    ∙ ap (map (λ m. references_where (λ labels. satisfies m labels) part)) c.matchers.ensures.items)
    (ap (λ x. g.S.Live.Postings.remaining x.0) c.new-live.ensures ∙ c.in_ok-live.ensures
    ∙ ap (λ from. live_references from (to_z w64 (of_z w64 c.to.result)) part) from_is
    ∙ ap (λ to. live_references c.from.result to part) to_is
    ∙ ap (λ from. live_references from c.to.result part) c.from.ensures.value
    ∙ ap (λ to. live_references c.args.query.now.from to part) c.to.ensures)
    (g.met.S.Source.is_part c.args.source.now) c.in_ok-certificate.ensures.leftmost

pub returns-clause-of_lists : goal.returns-clause-of_lists
returns-clause-of_lists g c =
    let n = length c.in_ok-certificate.certificate.items in
    let same : length c.as_mut_slice.result.now ≡ length c.in_ok-lists.lists.items =
    ap length c.as_mut_slice.ensures.value in
    let long : length c.walk.new.lists ≡ length c.in_ok-lists.lists.items =
    omega (arith, same, c.walk.auto.lists) in
    let back : c.as_slice.result.now ≡ c.walk.new.lists =
    c.as_slice.ensures.value
    ∙ written_back c.walk.new.lists c.in_ok-lists.lists.items c.in_ok-lists.lists.len long
    (omega (arith, same, c.as_mut_slice.ensures.len)) in
    let many : length c.as_slice.result.now ≡ length c.args.query.now.matchers =
    ap length back
    ∙ long
    ∙ same_lengths _ _ c.in_ok-lists.lists.items c.matchers.result.now c.in_ok-lists.ensures.lists
    ∙ ap length c.matchers.ensures.items in
    moves_bound c.sum_moves-of_lists.result c.moves.result n (length c.as_slice.result.now)
    (length c.args.query.now.matchers)
    (c.sum_moves-of_lists.ensures n (moved_same n c.walk.new.lists c.as_slice.result.now back
    (λ j d l. c.in_ok-certificate.ensures.each_moves j d (omega (arith, l, c.walk.auto.lists)))))
    (omega (arith, c.moves.ensures, c.in_ok-certificate.ensures.moves)) many
