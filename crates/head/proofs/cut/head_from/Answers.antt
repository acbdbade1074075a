use Rattle.std.proofs.Common.{◌≡◌, ◌≤◌, true, ℤ, List, length, sym, ◌∙◌, ap, subst, arith, refl, rules, to_z, of_z, w64}
use Rattle.std.specs.Prelude.{int_lt}
use Rattle.labels.specs.Labels.{Labels}
use Rattle.labels.specs.Parts.{IsPart}
use Rattle.head.specs.Heads.{HeadSeries, SnapshotParts, IsSoundHead, head_part}
use Rattle.head.specs.Orders.{sets_of, Extends}
use Rattle.head.specs.Removing.{head_cut}
use Rattle.head.specs.Snapshots.{parts_in}
use Rattle.head.proofs.Cutting.{IsSoundHead-head_cut}
use Rattle.head.proofs.Leaving.{length-head_cut}
use Rattle.head.proofs.PartLaws.{IsPart-head_part}
use Rattle.head.proofs.cut.head_from.Goals as goal

-- of few series, those that stay are few, and a part
few_stay : (t : ℤ) (old new : List HeadSeries) → length old ≤ 1048576 → new ≡ head_cut t old → length new ≤ 1048576
few_stay t old new few is = omega (arith, length-head_cut t old, few, ap length is)

stays : (floor t : ℤ) (old new : List HeadSeries) → IsSoundHead floor old → length old ≤ 1048576 → new ≡ head_cut t old → IsPart (head_part new)
stays floor t old new sound few is =
    subst (λ (hs : List HeadSeries). IsPart (head_part hs)) (sym is) (IsPart-head_part t (head_cut t old) (IsSoundHead-head_cut floor t old sound) (omega (arith, length-head_cut t old, few)))

pub series_from-requires : goal.series_from-requires
series_from-requires c =
    let s : SnapshotParts = parts_in c.at.inside in
    let floor_is : to_z w64 (of_z w64 c.at.inside.floor) ≡ c.at.inside.floor = search rules in
    let time_is : to_z w64 (of_z w64 c.args.time) ≡ c.args.time = search rules in
    record {
      few = subst (λ (hs : List HeadSeries). length hs ≤ 1048576) (sym c.series.ensures) c.at.inside.head.few;
      sound = subst (λ (f : ℤ). IsSoundHead f c.series.result.now) (sym floor_is) (subst (λ (hs : List HeadSeries). IsSoundHead s.floor hs) (sym c.series.ensures) c.at.invariant.head);
      up = (λ i. int_lt (floor_is i) (time_is i)) ∙ subst (λ (v : SnapshotParts). int_lt v.floor c.args.time ≡ true) (sym c.at.view_is) c.requires;
    }

pub index_of-requires : goal.index_of-requires
index_of-requires c =
    let s : SnapshotParts = parts_in c.at.inside in
    let time_is : to_z w64 (of_z w64 c.args.time) ≡ c.args.time = search rules in
    let is : c.in_ok-series.series ≡ head_cut c.args.time s.head = c.in_ok-series.ensures.stay ∙ (λ i. head_cut (time_is i) (c.series.ensures i)) in
    let sets : List Labels = sets_of c.in_ok-series.series in
    record {
      few = few_stay c.args.time s.head c.in_ok-series.series c.at.inside.head.few is;
      extended = subst (λ (hs : List HeadSeries). Extends (sets_of hs) sets) (sym c.in_ok-empty.ensures.series) (sets, refl);
    }

pub of-requires : goal.of-requires
of-requires c =
    let s : SnapshotParts = parts_in c.at.inside in
    let time_is : to_z w64 (of_z w64 c.args.time) ≡ c.args.time = search rules in
    let is : c.in_ok-series.series ≡ head_cut c.args.time s.head = c.in_ok-series.ensures.stay ∙ (λ i. head_cut (time_is i) (c.series.ensures i)) in
    record {
      few = few_stay c.args.time s.head c.in_ok-series.series c.at.inside.head.few is;
      ordered = c.in_ok-series.ensures.ordered;
      indexed = c.in_ok-index.ensures;
      is_part = stays s.floor c.args.time s.head c.in_ok-series.series c.at.invariant.head c.at.inside.head.few is;
    }

pub returns : goal.returns
returns c =
    let time_is : to_z w64 (of_z w64 c.args.time) ≡ c.args.time = search rules in
    record {
      series = c.of.ensures.series ∙ c.in_ok-series.ensures.stay ∙ (λ i. head_cut (time_is i) ((c.series.ensures ∙ ap (λ (v : SnapshotParts). v.head) c.at.view_is) i));
      copied = c.of.ensures.copied;
    }
