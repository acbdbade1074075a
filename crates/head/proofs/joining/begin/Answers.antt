use Rattle.std.proofs.Common.{◌≡◌, ◌∷◌, [], List, ℕ, length, ap, sym, ◌∙◌, subst}
use Rattle.std.specs.FinMap.Entries.{put}
use Rattle.labels.specs.Labels.{Labels, labels_cmp}
use Rattle.std.proofs.lemmas.List.{map-append}
use Rattle.head.specs.Heads.{HeadSeries}
use Rattle.head.specs.Orders.{IsOrderOf}
use Rattle.head.specs.Slots.{Slot, Own, series_in, series_in_each}
use Rattle.head.proofs.Ordered.{ordered_more}
use Rattle.head.proofs.SlotLaws.{length-each, on_ok}
use Rattle.head.proofs.joining.begin.Goals as goal

pub returns-clause-ordered : goal.returns-clause-ordered
returns-clause-ordered c =
    let slots : List Slot = c.args.draft.now in
    let head : List HeadSeries = series_in_each slots in
    let count : c.len.result ≡ length head = c.len.ensures.count ∙ sym (length-each slots) in
    let more = ordered_more c.args.order.now head c.args.series c.len.result count c.requires.absent c.requires.ordered in
    let order_is : c.insert.new.self ≡ put labels_cmp c.args.series.labels c.len.result c.args.order.now =
    c.in_ok-insert.ensures.ok ∙ ap (λ (l : Labels). put labels_cmp l c.len.result c.args.order.now) c.labels.ensures in
    on_ok c.push.result
    (λ is. subst (λ (order : List (Labels × ℕ)). IsOrderOf order (series_in_each c.push.new.self)) (sym order_is)
    (subst (λ (hs : List HeadSeries). IsOrderOf (put labels_cmp c.args.series.labels c.len.result c.args.order.now) hs)
    (sym (ap (λ (ss : List Slot). series_in_each ss) is ∙ map-append series_in slots (Own c.args.series ∷ []))) more))
    c.push.ensures.ok
