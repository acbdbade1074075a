use Rattle.std.specs.Prelude.{[], pos, refl}
use Rattle.head.specs.Heads.{HeadSeries}
use Rattle.head.specs.Slots.{series_in_each}
use Rattle.head.proofs.Ordered.{placed_at}
use Rattle.head.proofs.joining.place_of.Goals as goal

some : HeadSeries
some = record { labels = []; samples = []; newest = (pos 0, pos 0) }

pub returns-then-has_at : goal.returns-then-has_at
returns-then-has_at c = record {
  found = refl;
  place =
      placed_at c.args.order.now (series_in_each c.args.draft.now) c.args.labels.now c.saturating_add-next.result some c.requires (c.has_at.ensures c.if-has_at.true);
}

pub returns-then-has_at-2 : goal.returns-then-has_at-2
returns-then-has_at-2 c = record {
  found = refl;
  place =
      placed_at c.args.order.now (series_in_each c.args.draft.now) c.args.labels.now c.args.near.now.place some c.requires (c.has_at-2.ensures c.if-has_at-2.true);
}
