use Rattle.std.proofs.Common.{List, [], ◌∷◌, ◌++◌, sym, subst}
use Rattle.labels.specs.Rows.{Row}
use Rattle.exposition.specs.Runs.{GoesOn, IsPut}
use Rattle.exposition.proofs.Puts.{last_put, on_then}
use Rattle.exposition.proofs.runs.last_run.Goals as goal

pub returns-then-goes_on-clause-put : goal.returns-then-goes_on-clause-put
returns-then-goes_on-clause-put c =
    let labels = c.args.labels.now in
    let sample = c.args.sample in
    let front : List Row = c.pop.new.self.items in
    let last : Row = c.in-Some.last in
    let goes : GoesOn last labels sample =
    on_then c.goes_on.result c.if-goes_on.true c.goes_on.ensures in
    subst (λ (rs : List Row). IsPut labels sample rs (front ++ c.in_ok-row-2.row ∷ []))
    (sym c.in-Some.ensures.items)
    (subst (λ (r : Row). IsPut labels sample (front ++ last ∷ []) (front ++ r ∷ []))
    (sym c.in_ok-row-2.ensures) (last_put labels sample front last goes))
