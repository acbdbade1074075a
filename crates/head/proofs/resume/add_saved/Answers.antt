use Rattle.std.proofs.Common.{◌≡◌, ◌∷◌, ◌++◌, [], ℤ, List, ap, sym, subst, ◌∙◌, rules, to_z, of_z, w64}
use Rattle.labels.proofs.Times.{true_not_false}
use Rattle.head.specs.Heads.{HeadSeries}
use Rattle.head.specs.Resuming.{MayJoin}
use Rattle.head.specs.Slots.{Own, series_in_each}
use Rattle.head.specs.Taking.{place_from}
use Rattle.head.proofs.Resuming.{joins, joining_passes}
use Rattle.head.proofs.resume.add_saved.Goals as goal

pub returns-then-not-may_join-clause-refused : goal.returns-then-not-may_join-clause-refused
returns-then-not-may_join-clause-refused c = λ may.
    let floor_is : to_z w64 (of_z w64 c.args.floor) ≡ c.args.floor = search rules in
    let head : List HeadSeries = series_in_each c.args.draft.now in
    let may' = subst (λ (f : ℤ). MayJoin f head c.args.saved.now) (sym floor_is) may in
    true_not_false
    (sym (joining_passes (to_z w64 (of_z w64 c.args.floor)) head c.args.order.now c.args.saved.now c.requires.ordered may')
    ∙ sym c.may_join.ensures ∙ c.if-not-may_join.true)

pub begin-requires : goal.begin-requires
begin-requires c =
    let head : List HeadSeries = series_in_each c.args.draft.now in
    let may = joins (to_z w64 (of_z w64 c.args.floor)) head c.args.order.now c.args.saved.now c.requires.ordered (sym c.may_join.ensures ∙ c.if-not-may_join.false) in
    record {
      ordered = c.requires.ordered;
      absent = ap (λ (h : HeadSeries). place_from h.labels 0 head) c.in_ok-series.ensures ∙ may.absent;
      few = c.requires.few;
    }

pub returns-clause-added : goal.returns-clause-added
returns-clause-added c =
    c.in_ok-begin.ensures.begun ∙ ap (λ (h : HeadSeries). c.args.draft.now ++ Own h ∷ []) c.in_ok-series.ensures

pub returns-clause-joins : goal.returns-clause-joins
returns-clause-joins c =
    let floor_is : to_z w64 (of_z w64 c.args.floor) ≡ c.args.floor = search rules in
    let head : List HeadSeries = series_in_each c.args.draft.now in
    subst (λ (f : ℤ). MayJoin f head c.args.saved.now) floor_is
    (joins (to_z w64 (of_z w64 c.args.floor)) head c.args.order.now c.args.saved.now c.requires.ordered (sym c.may_join.ensures ∙ c.if-not-may_join.false))
