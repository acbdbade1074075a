use Rattle.std.proofs.Common.{◌≡◌, ◌+◌, sym, ap, subst, ◌∙◌, arith, take, length, [], ◌∷◌, ◌++◌, Some, None, is_some, true}
use Rattle.labels.specs.Labels.{Labels, labels_cmp}
use Rattle.std.specs.BTreeMap.{Updates}
use Rattle.kept_world.specs.Sound.{IsMapOf, AreApart, label_sets, place_in}
use Rattle.kept_world.proofs.Apart.{stands_twice_at, sets_next, maps-append, apart-append, is_none, is_there}
use Rattle.kept_world.proofs.places.places_of.Goals as goal

pub returns-then-is_some : goal.returns-then-is_some
returns-then-is_some c =
    let head = c.args.series.now in
    let e = c.index-series-place.result in
    let i = c.loop-place.place in
    let ls = label_sets (take i head) in
    let key : c.in_ok-labels.labels ≡ e.labels = c.in_ok-labels.ensures ∙ c.labels.ensures in
    let found : is_some (place_in e.labels ls) ≡ true =
    ap is_some
    (sym (c.in_ok-before.ensures.old ∙ c.loop-place.invariant.maps c.in_ok-labels.labels
    ∙ ap (λ (l : Labels). place_in l ls) key))
    ∙ sym c.is_some.ensures ∙ c.if-is_some.true in
    stands_twice_at head i e (omega arith) c.index-series-place.is found

pub loop-place-preserved : goal.loop-place-preserved
loop-place-preserved c =
    let head = c.args.series.now in
    let e = c.index-series-place.result in
    let i = c.loop-place.place in
    let ls = label_sets (take i head) in
    let key : c.in_ok-labels.labels ≡ e.labels = c.in_ok-labels.ensures ∙ c.labels.ensures in
    let none : place_in e.labels ls ≡ None =
    is_none (place_in e.labels ls)
    (ap is_some
    (sym (c.in_ok-before.ensures.old ∙ c.loop-place.invariant.maps c.in_ok-labels.labels
    ∙ ap (λ (l : Labels). place_in l ls) key))
    ∙ sym c.is_some.ensures ∙ c.if-is_some.false) in
    let next : label_sets (take (i + 1) head) ≡ ls ++ e.labels ∷ [] = sets_next head i e (omega arith) c.index-series-place.is in
    let len : i ≡ length ls = is_there head i (omega arith) in
    record {
      maps = subst (IsMapOf c.insert.new.self) (sym next)
          (maps-append c.loop-place.places c.insert.new.self e.labels ls i
          c.loop-place.invariant.maps none len
          (subst (λ (l : Labels). Updates labels_cmp c.loop-place.places c.insert.new.self l (Some i))
          key c.in_ok-before.ensures.updates));
      apart = subst AreApart (sym next) (apart-append ls e.labels c.loop-place.invariant.apart none);
    }
