use Rattle.std.proofs.Common.{◌≡◌, ◌+◌, ◌∷◌, Ok, length, refl, sym, subst, ◌∙◌, rules}
use Rattle.journal.specs.Contents.{contents_in}
use Rattle.head_record.specs.Outcome.{Begins}
use Rattle.head_record.specs.Reading.{with_series}
use Rattle.head_record.specs.Saved.{Saved}
use Rattle.head_record.specs.Views.{opening_in}
use Rattle.head_record.proofs.Contents.{all_read, begins, saved_of, series_refused, too_few}
use Rattle.head_record.proofs.Loops.{sized}
use Rattle.head_record.proofs.reading.with_series.Goals as goal

pub returns-then-are_few-clause-exact : goal.returns-then-are_few-clause-exact
returns-then-are_few-clause-exact c =
    too_few (contents_in c.args.others.now) (opening_in c.args.opening) _
    (sym c.are_few.ensures ∙ c.if-are_few.true) (sized c.args.others.now _ (search rules))

pub returns-in-Err-clause-exact : goal.returns-in-Err-clause-exact
returns-in-Err-clause-exact c =
    series_refused (contents_in c.args.others.now) (contents_in c.own_contents-own.result.now)
    (opening_in c.args.opening) c.in-Err.refused (sym c.are_few.ensures ∙ c.if-are_few.false)
    c.own_contents-own.ensures c.in-Err.ensures.exact

pub returns-in-Ok-clause-exact : goal.returns-in-Ok-clause-exact
returns-in-Ok-clause-exact c =
    let n = length c.own_contents-own.result.now + 1 in
    let o = opening_in c.args.opening in
    let saved = saved_of o c.in-Ok.series.items in
    let made : c.new-head.result ≡ saved = search rules in
    subst (λ (x : Saved). with_series (opening_in c.args.opening) (contents_in c.args.others.now)
    ≡ Ok (x, n)) (sym made)
    (all_read (contents_in c.args.others.now) (contents_in c.own_contents-own.result.now)
    (opening_in c.args.opening) c.in-Ok.series.items n
    (sym c.are_few.ensures ∙ c.if-are_few.false) c.own_contents-own.ensures c.in-Ok.ensures.exact
    (sized c.own_contents-own.result.now n refl))

pub returns-in-Ok-clause-found : goal.returns-in-Ok-clause-found
returns-in-Ok-clause-found c first s =
    let n = length c.own_contents-own.result.now + 1 in
    let o = opening_in c.args.opening in
    let saved = saved_of o c.in-Ok.series.items in
    let made : c.new-head.result ≡ saved = search rules in
    subst (λ (x : Saved). Begins (first ∷ contents_in c.args.others.now) x n)
    (sym made)
    (begins first (contents_in c.args.others.now) (contents_in c.own_contents-own.result.now)
    (opening_in c.args.opening) n c.in-Ok.series.items s
    (sym c.are_few.ensures ∙ c.if-are_few.false) c.own_contents-own.ensures c.in-Ok.ensures.found
    (sized c.own_contents-own.result.now n refl))
