use Rattle.std.proofs.Common.{◌≡◌, ◌≤◌, ℕ, List, length, sym, ◌∙◌, ap, subst, arith, rules, to_z, of_z, w64}
use Rattle.std.specs.List.{Contains}
use Rattle.std.proofs.lemmas.List.{length-map}
use Rattle.labels.specs.Labels.{Labels}
use Rattle.labels.specs.Parts.{references_of, IsPart}
use Rattle.labels.proofs.PartRows.{kept_in}
use Rattle.head.specs.Heads.{HeadSeries, SnapshotParts, head_part}
use Rattle.head.specs.HeadRowLaws.{references-numbered}
use Rattle.head.specs.SpanLaws.{in_span}
use Rattle.head.specs.Orders.{sets_of, Extends, IsOrderOf}
use Rattle.head.specs.Removing.{series_kept, head_kept, survives, is_struck, head_less}
use Rattle.head.specs.Snapshots.{parts_in}
use Rattle.head.proofs.Deleting.{IsSoundHead-head_kept, sets-head_kept}
use Rattle.head.proofs.Indexing.{same_extends}
use Rattle.head.proofs.Ordered.{ordered_alike}
use Rattle.head.proofs.PartLaws.{IsPart-head_part}
use Rattle.head.proofs.Striking.{head_struck}
use Rattle.head.proofs.deletion.head_without.Goals as goal

pub drop_each-requires : goal.drop_each-requires
drop_each-requires c = λ r held.
    let from_is : to_z w64 (of_z w64 c.args.from) ≡ c.args.from = search rules in
    let to_is : to_z w64 (of_z w64 c.args.to) ≡ c.args.to = search rules in
    let s : SnapshotParts = parts_in c.at.inside in
    let ms = c.args.matchers.now in
    let head_is = c.head.ensures.series ∙ sym (ap (λ (v : SnapshotParts). v.head) c.at.view_is) in
    let listed = c.as_slice.ensures.value ∙ c.in_ok-references.ensures ∙ (λ i. references_of (is_struck ms (from_is i) (to_is i)) (head_part (head_is i))) in
    let series_are : c.in_ok-series.series ≡ s.head = c.in_ok-series.ensures ∙ c.series.ensures in
    let inside = in_span 1 (length s.head) r (subst (λ (rs : List ℕ). Contains rs r) (references-numbered 1 s.head)
    (kept_in (is_struck ms c.args.from c.args.to) (head_part s.head) r (subst (λ (rs : List ℕ). Contains rs r) listed held))) in
    (inside.0, omega (arith, inside, ap length series_are))

pub index_of-requires : goal.index_of-requires
index_of-requires c =
    let from_is : to_z w64 (of_z w64 c.args.from) ≡ c.args.from = search rules in
    let to_is : to_z w64 (of_z w64 c.args.to) ≡ c.args.to = search rules in
    let s : SnapshotParts = parts_in c.at.inside in
    let ms = c.args.matchers.now in
    let head_is = c.head.ensures.series ∙ sym (ap (λ (v : SnapshotParts). v.head) c.at.view_is) in
    let listed = c.as_slice.ensures.value ∙ c.in_ok-references.ensures ∙ (λ i. references_of (is_struck ms (from_is i) (to_is i)) (head_part (head_is i))) in
    let series_are : c.in_ok-series.series ≡ s.head = c.in_ok-series.ensures ∙ c.series.ensures in
    let new_is : c.drop_each.new.series ≡ head_kept (survives ms c.args.from c.args.to) s.head =
    c.in_ok-drop_each.ensures ∙ (λ i. head_less (listed i) (from_is i) (to_is i) 1 (series_are i)) ∙ head_struck ms c.args.from c.args.to s.head in
    record {
      few = omega (arith, c.at.inside.head.few, ap length new_is, length-map s.head (series_kept (survives ms c.args.from c.args.to)));
      extended = subst (λ (ls : List Labels). Extends (sets_of s.head) ls) (sym (ap sets_of new_is ∙ sets-head_kept (survives ms c.args.from c.args.to) s.head)) (same_extends (sets_of s.head));
    }

pub of-requires : goal.of-requires
of-requires c =
    let from_is : to_z w64 (of_z w64 c.args.from) ≡ c.args.from = search rules in
    let to_is : to_z w64 (of_z w64 c.args.to) ≡ c.args.to = search rules in
    let s : SnapshotParts = parts_in c.at.inside in
    let ms = c.args.matchers.now in
    let head_is = c.head.ensures.series ∙ sym (ap (λ (v : SnapshotParts). v.head) c.at.view_is) in
    let listed = c.as_slice.ensures.value ∙ c.in_ok-references.ensures ∙ (λ i. references_of (is_struck ms (from_is i) (to_is i)) (head_part (head_is i))) in
    let series_are : c.in_ok-series.series ≡ s.head = c.in_ok-series.ensures ∙ c.series.ensures in
    let new_is : c.drop_each.new.series ≡ head_kept (survives ms c.args.from c.args.to) s.head =
    c.in_ok-drop_each.ensures ∙ (λ i. head_less (listed i) (from_is i) (to_is i) 1 (series_are i)) ∙ head_struck ms c.args.from c.args.to s.head in
    let few : length c.drop_each.new.series ≤ 1048576 = omega (arith, c.at.inside.head.few, ap length new_is, length-map s.head (series_kept (survives ms c.args.from c.args.to))) in
    let order_is : c.in_ok-order.order ≡ c.order.result.now = c.in_ok-order.ensures in
    record {
      few = few;
      ordered = subst (λ (order : List (Labels × ℕ)). IsOrderOf order c.drop_each.new.series) (sym order_is)
          (ordered_alike c.order.result.now s.head c.drop_each.new.series (sym (ap sets_of new_is ∙ sets-head_kept (survives ms c.args.from c.args.to) s.head)) c.order.ensures);
      indexed = c.in_ok-index.ensures;
      is_part = subst (λ (hs : List HeadSeries). IsPart (head_part hs)) (sym new_is)
          (IsPart-head_part s.floor (head_kept (survives ms c.args.from c.args.to) s.head) (IsSoundHead-head_kept s.floor (survives ms c.args.from c.args.to) s.head c.at.invariant.head)
          (subst (λ n. n ≤ 1048576) (ap length new_is) few));
    }

pub returns-clause-series : goal.returns-clause-series
returns-clause-series c =
    let from_is : to_z w64 (of_z w64 c.args.from) ≡ c.args.from = search rules in
    let to_is : to_z w64 (of_z w64 c.args.to) ≡ c.args.to = search rules in
    let s : SnapshotParts = parts_in c.at.inside in
    let ms = c.args.matchers.now in
    let head_is = c.head.ensures.series ∙ sym (ap (λ (v : SnapshotParts). v.head) c.at.view_is) in
    let listed = c.as_slice.ensures.value ∙ c.in_ok-references.ensures ∙ (λ i. references_of (is_struck ms (from_is i) (to_is i)) (head_part (head_is i))) in
    let series_are : c.in_ok-series.series ≡ s.head = c.in_ok-series.ensures ∙ c.series.ensures in
    let new_is : c.drop_each.new.series ≡ head_kept (survives ms c.args.from c.args.to) s.head =
    c.in_ok-drop_each.ensures ∙ (λ i. head_less (listed i) (from_is i) (to_is i) 1 (series_are i)) ∙ head_struck ms c.args.from c.args.to s.head in
    c.of.ensures.series ∙ new_is ∙ ap (λ (v : SnapshotParts). head_kept (survives ms c.args.from c.args.to) v.head) c.at.view_is
