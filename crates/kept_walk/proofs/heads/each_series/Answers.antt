use Rattle.std.proofs.Common.{ap, ◌∙◌, Vec, arith}
use Rattle.std.specs.declared.alloc.Global.{Global}
use Rattle.std.specs.List.{AllZip}
use Rattle.std.proofs.lemmas.Result.{err_from_is_err_and}
use Rattle.journal.specs.Contents.{contents_in}
use Rattle.kept_walk.specs.Contents.{SpellsSeries}
use Rattle.kept_walk.specs.Kept.{Series}
use Rattle.kept_walk.proofs.InTurn.{in_turn, none_is, passes_on}
use Rattle.kept_walk.proofs.heads.each_series.Goals as goal

pub returns-in_err-read_series : goal.returns-in_err-read_series
returns-in_err-read_series c =
    let p = err_from_is_err_and c.from_residual.result c.from_residual.ensures.1 in
    let vs = c.args.contents.now in
    let is = c.deref.ensures.value ∙ ap (λ v. v.items) c.content-item.is in
    rw (p.1, p.2) (passes_on (λ s. s) (SpellsSeries c.deref.result.now) (λ (s : Vec Series Global). s.items)
    (AllZip SpellsSeries (contents_in vs)) c.in_err-read_series.field-0.0
    (none_is SpellsSeries vs c.loop-content.content-index c.content-item.result
    c.deref.result.now (omega (arith, c.loop-content-test.true)) is)
    c.in_err-read_series.ensures)

pub loop-content-preserved : goal.loop-content-preserved
loop-content-preserved c =
    let vs = c.args.contents.now in
    let i = c.loop-content.content-index in
    let is = c.deref.ensures.value ∙ ap (λ v. v.items) c.content-item.is in
    rw c.in_ok-push.ensures.items (in_turn SpellsSeries vs i c.content-item.result
    c.deref.result.now c.loop-content.series.items c.in_ok-read_series.field-0
    (omega (arith, c.loop-content-test.true)) is c.loop-content.invariant
    c.in_ok-read_series.ensures)
