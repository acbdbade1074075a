use Rattle.std.proofs.Common.{◌≡◌, ◌+◌, ◌<◌, length, subst, sym, ap, ◌∙◌, arith, None, drop, get_or, ℤ, List}
use Rattle.labels.specs.Labels.{Labels}
use Rattle.kept_world.specs.States.{added, entries_in}
use Rattle.kept_world.proofs.Placing.{run_step, refused_stays}
use Rattle.kept_world.proofs.head.Head.add_run.Goals as goal

pub returns-in-None : goal.returns-in-None
returns-in-None c =
    let n = c.args.number in
    let floor = c.args.floor.now in
    let run = c.args.run.now in
    let i = c.loop-sample.sample-index in
    let s = c.sample-item.result in
    let test = c.loop-sample-test.true in
    let items : c.samples-sample-items.result.now ≡ run.1 = c.samples-sample-items.ensures in
    let lt : i < length run.1 = subst (λ (xs : List (ℤ × ℤ)). i < length xs) items (omega (arith, test)) in
    let is : s ≡ get_or run.1 i s = c.sample-item.is ∙ ap (λ (xs : List (ℤ × ℤ)). get_or xs i s) items in
    let step : added n floor (run.0, s) c.loop-sample.head ≡ None =
    ap (λ (l : Labels). added n floor (l, s) c.loop-sample.head) (sym c.labels-labels.ensures)
    ∙ sym c.in_ok-next.ensures ∙ c.in-None.is in
    sym (refused_stays n floor (entries_in run.0 (drop (i + 1) run.1)))
    ∙ sym (run_step n floor run.0 run.1 i s c.loop-sample.head None lt is step)
    ∙ c.loop-sample.invariant
