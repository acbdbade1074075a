use Rattle.std.proofs.Common.{◌≡◌, ℤ, List, refl, sym, ap, ◌∙◌, length, arith, rules}
use Rattle.std.specs.Prelude.{map}
use Rattle.std.specs.Ordering.{eq_by_cmp}
use Rattle.std.proofs.lemmas.List.{length-map, take_all}
use Rattle.labels.specs.Labels.{Labels, labels_cmp}
use Rattle.labels.specs.Laws.{labels_total}
use Rattle.labels.proofs.OrderLaws.{labels_exact}
use Rattle.block_writer.proofs.Held.{held_once}
use Rattle.commands.proofs.listing.series_count.Goals as goal

pub returns : goal.returns
returns c =
    let xs = c.args.samples.now in
    let once = c.dedup.new.self.items in
    let count : c.len.result ≡ length once = search rules in (
      map (λ x. x.now) c.dedup.new.self.items,
      held_once (λ x. x.now) labels_cmp labels_total labels_exact
          (λ x y. eq_by_cmp labels_cmp x.now y.now) (λ x y. refl)
          c.loop-sample.all.items c.sort_unstable.new.self.items c.dedup.new.self.items _
          (c.loop-sample.invariant
          ∙ ap (λ (ys : List (Labels × (ℤ × ℤ))). map (λ (y : Labels × (ℤ × ℤ)). y.0) ys)
          (take_all c.loop-sample.sample-index xs (omega (arith, c.loop-sample-test.false))))
          c.sort_unstable.ensures.permutation c.sort_unstable.ensures.sorted c.dedup.ensures.filtered,
      count ∙ sym (length-map once (λ x. x.now)),
    )
