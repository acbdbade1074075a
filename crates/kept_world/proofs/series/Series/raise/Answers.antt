use Rattle.std.proofs.Common.{sym, subst, not, int_lt, List}
use Rattle.kept_world.specs.States.{Born, HeadSeries}
use Rattle.kept_world.specs.Sound.{IsSoundSeries}
use Rattle.kept_world.proofs.Rising.{sound_kept}
use Rattle.kept_world.proofs.series.Series.raise.Goals as goal

pub invariant_of-self : goal.invariant_of-self
invariant_of-self c =
    let s = c.self.inside in
    let old : HeadSeries = record { labels = s.labels; born = s.born; newest = s.newest; samples = s.samples.items } in
    subst (λ (ks : List Born). IsSoundSeries (record old { samples = ks })) (sym c.keep_from.ensures)
    (sound_kept (λ (k : Born). not (int_lt k.1.0 c.args.time.now)) old c.self.invariant)
