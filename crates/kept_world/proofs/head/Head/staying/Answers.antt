use Rattle.std.proofs.Common.{◌≡◌, ◌≤◌, length, arith, sym, ap, subst, ◌∙◌, filter, List}
use Rattle.labels.specs.Labels.{Labels}
use Rattle.kept_world.specs.States.{HeadSeries, stays, max_series}
use Rattle.kept_world.specs.Sound.{AreApart, IsPlaced, label_sets}
use Rattle.kept_world.proofs.Apart.{apart-filter, sets_rest, sets_many, few-filter, places_found, placed_by}
use Rattle.kept_world.proofs.head.Head.staying.Goals as goal

pub unwrap-places-requires : goal.unwrap-places-requires
unwrap-places-requires c =
    let head : List HeadSeries = c.self.inside.series.items in
    let t = c.args.time.now in
    let sets : label_sets c.deref.result.now ≡ label_sets (filter (stays t) head) =
    ap label_sets (c.deref.ensures.value ∙ c.raise_all.ensures) ∙ sets_rest t (filter (stays t) head) in
    places_found (label_sets c.deref.result.now) c.in_ok-places_of.field-0 c.in_ok-places_of.ensures
    (subst AreApart (sym sets) (apart-filter (stays t) head c.self.invariant.apart))

pub invariant_of-result : goal.invariant_of-result
invariant_of-result c =
    let head : List HeadSeries = c.self.inside.series.items in
    let t = c.args.time.now in
    let sets : label_sets c.raise_all.new.series.items ≡ label_sets (filter (stays t) head) =
    ap label_sets c.raise_all.ensures ∙ sets_rest t (filter (stays t) head) in
    let same : label_sets c.deref.result.now ≡ label_sets c.raise_all.new.series.items = ap label_sets c.deref.ensures.value in
    let rest = sets_many (filter (stays t) head) in
    let few = few-filter (stays t) head in
    let many = sets_many head in
    let all = c.self.invariant.few in
    let len = ap length sets in
    let fits : length (label_sets c.deref.result.now) ≤ max_series = let d = ap length same in omega (arith, d, len, rest, few, many, all) in
    subst (λ (ls : List Labels). IsPlaced ls c.unwrap-places.result) same
    (placed_by (label_sets c.deref.result.now) c.in_ok-places_of.field-0 c.unwrap-places.result c.in_ok-places_of.ensures c.unwrap-places.ensures fits)
