use Rattle.std.proofs.lemmas.Result.{err_from_is_err_and}
use Rattle.std.proofs.Common.{◌≡◌, ◌≤◌, ℤ, List, length, refl, sym, ap, subst, ◌∙◌, arith, rules, to_z, of_z, w64}
use Rattle.labels.specs.Parts.{IsPart}
use Rattle.head.specs.Heads.{HeadSeries, IsSoundHead, head_part}
use Rattle.head.specs.Orders.{sets_of, Extends}
use Rattle.head.specs.Resuming.{MayStandInHead}
use Rattle.head.proofs.PartLaws.{IsPart-head_part}
use Rattle.head.proofs.Resuming.{denies_more}
use Rattle.head.proofs.resume.head_of_saved.Goals as goal

pub returns-then-saved-gt-MAX_SERIES-clause-refused : goal.returns-then-saved-gt-MAX_SERIES-clause-refused
returns-then-saved-gt-MAX_SERIES-clause-refused c = λ may. omega (arith, may.few, c.if-saved-gt-MAX_SERIES.true)

pub returns-in_err-series-clause-refused : goal.returns-in_err-series-clause-refused
returns-in_err-series-clause-refused c =
    let floor_is : to_z w64 (of_z w64 c.args.floor) ≡ c.args.floor = search rules in
    let f : MayStandInHead c.args.floor c.args.saved.now → IsSoundHead (to_z w64 (of_z w64 c.args.floor)) c.args.saved.now =
    λ may. subst (λ (z : ℤ). IsSoundHead z c.args.saved.now) (sym floor_is) may.sound in
    let p = err_from_is_err_and c.from_residual.result c.from_residual.ensures.1 in
    rw (p.1, p.2) (denies_more c.in_err-series.field-0.0 (IsSoundHead (to_z w64 (of_z w64 c.args.floor)) c.args.saved.now) (MayStandInHead c.args.floor c.args.saved.now) f c.in_err-series.ensures.refused)

pub index_of-requires : goal.index_of-requires
index_of-requires c =
    let is = c.in_ok-series.ensures.same in
    let few : length c.args.saved.now ≤ 1048576 = omega (arith, c.if-saved-gt-MAX_SERIES.false) in
    record {
      few = omega (arith, ap length is, few);
      extended = subst (λ (hs : List HeadSeries). Extends (sets_of hs) (sets_of c.in_ok-series.series)) (sym c.in_ok-empty.ensures.series) (sets_of c.in_ok-series.series, refl);
    }

pub of-requires : goal.of-requires
of-requires c =
    let is = c.in_ok-series.ensures.same in
    let few : length c.args.saved.now ≤ 1048576 = omega (arith, c.if-saved-gt-MAX_SERIES.false) in
    record {
      few = omega (arith, ap length is, few);
      ordered = c.in_ok-series.ensures.ordered;
      indexed = c.in_ok-index.ensures;
      is_part = subst (λ (hs : List HeadSeries). IsPart (head_part hs)) (sym is)
          (IsPart-head_part (to_z w64 (of_z w64 c.args.floor)) c.args.saved.now c.in_ok-series.ensures.sound few);
    }

pub returns-clause-series : goal.returns-clause-series
returns-clause-series c = c.of.ensures.series ∙ c.in_ok-series.ensures.same

pub returns-clause-stands : goal.returns-clause-stands
returns-clause-stands c =
    let floor_is : to_z w64 (of_z w64 c.args.floor) ≡ c.args.floor = search rules in
    record {
      sound = subst (λ (z : ℤ). IsSoundHead z c.args.saved.now) floor_is c.in_ok-series.ensures.sound;
      few = omega (arith, c.if-saved-gt-MAX_SERIES.false);
    }
