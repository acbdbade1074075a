use Rattle.std.proofs.Common.{sym, ap, subst, ◌∙◌, arith, List, Some}
use Rattle.kept_world.specs.States.{Born, HeadSeries, grown}
use Rattle.kept_world.specs.Sound.{Took, IsSoundSeries}
use Rattle.kept_world.proofs.Taking.{grown_early, grown_level, grown_full, grown_more}
use Rattle.kept_world.proofs.Rising.{sound_last}
use Rattle.kept_world.proofs.series.Series.grow.Goals as goal

pub returns-then-is_earlier : goal.returns-then-is_earlier
returns-then-is_earlier c =
    let s = c.self.inside in
    let old : HeadSeries = record { labels = s.labels; born = s.born; newest = s.newest; samples = s.samples.items } in
    ap (grown c.args.number c.args.sample) (sym c.self.view_is)
    ∙ grown_early c.args.number c.args.sample old (sym c.is_earlier.ensures ∙ c.if-is_earlier.true)

pub returns-then-is_level : goal.returns-then-is_level
returns-then-is_level c =
    let s = c.self.inside in
    let old : HeadSeries = record { labels = s.labels; born = s.born; newest = s.newest; samples = s.samples.items } in
    subst (λ (e : HeadSeries). Took c.has_value_of.result (grown c.args.number c.args.sample e) e) c.self.view_is
    (grown_level c.args.number c.args.sample old c.has_value_of.result (sym c.is_earlier.ensures ∙ c.if-is_earlier.false)
    (sym c.is_level.ensures ∙ c.if-is_level.true) c.has_value_of.ensures)

pub returns-then-len-ge-MAX_SAMPLES : goal.returns-then-len-ge-MAX_SAMPLES
returns-then-len-ge-MAX_SAMPLES c =
    let s = c.self.inside in
    let old : HeadSeries = record { labels = s.labels; born = s.born; newest = s.newest; samples = s.samples.items } in
    ap (grown c.args.number c.args.sample) (sym c.self.view_is)
    ∙ grown_full c.args.number c.args.sample old (sym c.is_earlier.ensures ∙ c.if-is_earlier.false)
    (sym c.is_level.ensures ∙ c.if-is_level.false) (let l = c.len.ensures in omega (arith, l, c.if-len-ge-MAX_SAMPLES.true))

pub invariant_of-self-2 : goal.invariant_of-self-2
invariant_of-self-2 c =
    let s = c.self.inside in
    let old : HeadSeries = record { labels = s.labels; born = s.born; newest = s.newest; samples = s.samples.items } in
    subst (λ (ks : List Born). IsSoundSeries (record old { newest = c.args.sample; samples = ks })) (sym c.in_ok-push.ensures.items)
    (sound_last c.args.number c.args.sample old (sym c.is_earlier.ensures ∙ c.if-is_earlier.false)
    (sym c.is_level.ensures ∙ c.if-is_level.false) c.self.invariant)

pub returns : goal.returns
returns c =
    let s = c.self.inside in
    let old : HeadSeries = record { labels = s.labels; born = s.born; newest = s.newest; samples = s.samples.items } in
    ap (grown c.args.number c.args.sample) (sym c.self.view_is)
    ∙ grown_more c.args.number c.args.sample old (sym c.is_earlier.ensures ∙ c.if-is_earlier.false)
    (sym c.is_level.ensures ∙ c.if-is_level.false) (let l = c.len.ensures in omega (arith, l, c.if-len-ge-MAX_SAMPLES.false))
    ∙ ap (λ (ks : List Born). Some (record old { newest = c.args.sample; samples = ks })) (sym c.in_ok-push.ensures.items)
