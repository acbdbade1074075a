use Rattle.std.proofs.Common.{sym, subst, not, List}
use Rattle.labels.specs.Contents.{in_range}
use Rattle.kept_world.specs.States.{Born, HeadSeries}
use Rattle.kept_world.specs.Sound.{IsSoundSeries}
use Rattle.kept_world.proofs.Rising.{sound_kept}
use Rattle.kept_world.proofs.series.Series.strike.Goals as goal

pub invariant_of-self : goal.invariant_of-self
invariant_of-self c =
    let s = c.self.inside in
    let old : HeadSeries = record { labels = s.labels; born = s.born; newest = s.newest; samples = s.samples.items } in
    subst (λ (ks : List Born). IsSoundSeries (record old { samples = ks })) (sym c.strike_samples.ensures)
    (sound_kept (λ (k : Born). not (in_range c.span.result.from c.span.result.to k.1.0)) old c.self.invariant)
