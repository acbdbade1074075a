use Rattle.std.proofs.Common.{◌∷◌, ◌∙◌, ℕ, List, [], map, sym, subst, ap, Vec}
use Rattle.std.specs.List.{AllZip}
use Rattle.std.specs.declared.alloc.Global.{Global}
use Rattle.std.proofs.lemmas.Result.{err_from_is_err_and}
use Rattle.journal.specs.Contents.{contents_in}
use Rattle.kept_walk.specs.Contents.{BeginsWithHead, SpellsOpening, SpellsSeries}
use Rattle.kept_walk.specs.Kept.{Series, Store}
use Rattle.kept_walk.specs.Parts.{head_seen, opening_in}
use Rattle.kept_walk.specs.Reading.{Opening}
use Rattle.kept_walk.proofs.InTurn.{passes_on}
use Rattle.kept_walk.proofs.OneHead.{begins, no_opening, no_series, too_few}
use Rattle.kept_walk.proofs.heads.head_after.Goals as goal

abbrev IsHead : List (List ℕ) → Store × List (List ℕ) → Type 0
IsHead contents p = BeginsWithHead contents p.0 p.1

abbrev firsts : List (ℕ × ℕ) → List ℕ
firsts places = map (λ p. p.0) places

pub returns-in_err-opening : goal.returns-in_err-opening
returns-in_err-opening c =
    let p = err_from_is_err_and c.from_residual.result c.from_residual.ensures.1 in
    let first = c.args.first.now in
    let others = contents_in c.args.others.now in
    rw (p.1, p.2) (passes_on opening_in (λ (o : Opening). SpellsOpening first o.0 o.1)
    head_seen (IsHead (first ∷ others)) c.in_err-opening.field-0.0
    (no_opening first others) c.in_err-opening.ensures)

pub returns-in_err-own : goal.returns-in_err-own
returns-in_err-own c =
    let p = err_from_is_err_and c.from_residual-in_err-own.result
    c.from_residual-in_err-own.ensures.1 in
    rw (p.1, p.2, c.in_err-own.ensures.few.0)
    (too_few c.args.first.now (contents_in c.args.others.now) (opening_in c.in_ok-opening.opening)
    c.in_ok-opening.ensures c.in_err-own.ensures.few.1)

pub returns-in_err-series : goal.returns-in_err-series
returns-in_err-series c =
    let p = err_from_is_err_and c.from_residual-in_err-series.result
    c.from_residual-in_err-series.ensures.1 in
    let first = c.args.first.now in
    let others = contents_in c.args.others.now in
    let own = contents_in c.in_ok-own.own.now in
    rw (p.1, p.2) (passes_on (λ (s : Vec Series Global). s.items) (AllZip SpellsSeries own)
    head_seen (IsHead (first ∷ others)) c.in_err-series.field-0.0
    (no_series first others own (opening_in c.in_ok-opening.opening) c.in_ok-opening.ensures
    c.in_ok-own.ensures.own) c.in_err-series.ensures)

pub returns : goal.returns
returns c =
    let first = c.args.first.now in
    let others = contents_in c.args.others.now in
    let behind = contents_in c.in_ok-own.behind.now in
    subst (λ (s : Store). BeginsWithHead (first ∷ others) s behind) (sym c.head_of.ensures)
    (begins first others (contents_in c.in_ok-own.own.now) behind
    (opening_in c.in_ok-opening.opening) c.in_ok-folders.folders.items
    c.in_ok-series.series.items [] c.in_ok-opening.ensures c.in_ok-own.ensures.enough
    c.in_ok-own.ensures.own c.in_ok-own.ensures.behind c.in_ok-series.ensures
    (c.in_ok-folders.ensures ∙ ap firsts c.deref.ensures.value))
