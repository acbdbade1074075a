use Rattle.std.proofs.Common.{◌≡◌, ◌<◌, length, sym, subst, ap, ◌∙◌, List, arith, Some, None, [], ◌∷◌, ◌++◌}
use Rattle.std.proofs.lemmas.List.{map-append}
use Rattle.std.specs.BTreeMap.{Updates}
use Rattle.labels.specs.Labels.{Labels, labels_cmp}
use Rattle.kept_world.specs.States.{HeadSeries, max_series}
use Rattle.kept_world.specs.Sound.{IsPlaced, label_sets, place_in}
use Rattle.kept_world.proofs.Apart.{placed-append, sets_many}
use Rattle.kept_world.proofs.head.Head.begin.Goals as goal

pub invariant_of-result : goal.invariant_of-result
invariant_of-result c =
    let head : List HeadSeries = c.self.inside.series.items in
    let ls = label_sets head in
    let l = c.args.labels.now in
    let many = sets_many head in
    let len : c.len-2.result ≡ length head = let l = c.len-2.ensures in omega (arith, l) in
    let was : c.len.result ≡ length head = let l = c.len.ensures in omega (arith, l) in
    let at : c.len-2.result ≡ length ls = len ∙ sym many in
    let room : c.len-2.result < max_series = omega (arith, len, was, c.if-len-ge-MAX_SERIES.false) in
    let none : place_in l ls ≡ None = ap (λ (hs : List HeadSeries). place_in l (label_sets hs)) c.self.view_is ∙ c.requires in
    let put : Updates labels_cmp c.self.inside.places c.insert.new.self l (Some c.len-2.result) =
    subst (λ (k : Labels). Updates labels_cmp c.self.inside.places c.insert.new.self k (Some c.len-2.result)) c.in_ok-try_clone.ensures c.in_ok-insert.ensures.updates in
    let new : c.in_ok-new.field-0.labels ≡ l = ap (λ (e : HeadSeries). e.labels) c.in_ok-new.ensures ∙ c.in_ok-try_clone-2.ensures in
    let sets : label_sets c.push.new.self.items ≡ ls ++ l ∷ [] =
    ap label_sets c.in_ok-push.ensures.items
    ∙ map-append (λ (e : HeadSeries). e.labels) head (c.in_ok-new.field-0 ∷ [])
    ∙ ap (λ (k : Labels). ls ++ k ∷ []) new in
    subst (λ (ms : List Labels). IsPlaced ms c.insert.new.self) (sym sets)
    (placed-append c.self.inside.places c.insert.new.self l ls c.len-2.result c.self.invariant none at room put)
