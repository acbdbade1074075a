use Rattle.std.proofs.Common.{◌≡◌, List, true, map, rules, sym, subst, SFits, w64, to_z, of_z}
use Rattle.std.proofs.lemmas.Int.{to_z-of_z}
use Rattle.std.proofs.lemmas.Result.{err_from_is_err_and}
use Rattle.remote_write.specs.Reading.{series_seen}
use Rattle.remote_write.specs.declared.series.Series.{Series}
use Rattle.remote_requests.specs.Series.{are_few, points_in}
use Rattle.remote_requests.proofs.CountTurns.{points_told}
use Rattle.remote_requests.proofs.WriteLaws.{not_packed, not_spelled_at, points_both, written_all}
use Rattle.remote_requests.proofs.body.write.Goals as goal

pub returns-in_err-text : goal.returns-in_err-text
returns-in_err-text c =
    let p = err_from_is_err_and c.from_residual.result c.from_residual.ensures.1 in
    rw (p.1, p.2) (not_packed c.args.now c.args.body.now _ c.in_err-text.ensures.exact)

pub returns-in_err-of : goal.returns-in_err-of
returns-in_err-of c =
    let p = err_from_is_err_and c.from_residual-in_err-of.result
    c.from_residual-in_err-of.ensures.1 in
    rw (p.1, p.2) (not_spelled_at c.args.now c.args.body.now c.in_ok-text.text.items
    c.as_slice.result.now _ c.as_slice.ensures.value c.in_ok-text.ensures.exact
    c.in_err-of.ensures)

pub returns-in_err-all : goal.returns-in_err-all
returns-in_err-all c =
    let p = err_from_is_err_and c.from_residual-in_err-all.result
    c.from_residual-in_err-all.ensures.1 in
    rw (p.1, p.2) (not_spelled_at c.args.now c.args.body.now c.in_ok-text.text.items
    c.as_slice-2.result.now _ c.as_slice-2.ensures.value c.in_ok-text.ensures.exact
    (points_told c.as_slice-2.result.now _ c.in_err-all.ensures))

pub received-requires-clause-few : goal.received-requires-clause-few
received-requires-clause-few c =
    subst (λ (xs : List Series). are_few (map series_seen xs) ≡ true)
    (sym c.as_slice-3.ensures.value) (points_both c.as_slice-2.result.now c.as_slice.result.now
    c.in_ok-text.text.items (map series_seen c.in_ok-all.all.items) c.in_ok-of.of
    c.as_slice-2.ensures.value c.as_slice.ensures.value c.in_ok-all.ensures.1
    c.in_ok-of.ensures).0

pub received-requires-clause-of : goal.received-requires-clause-of
received-requires-clause-of c =
    subst (λ (xs : List Series). c.in_ok-of.of ≡ points_in (map series_seen xs))
    (sym c.as_slice-3.ensures.value) (points_both c.as_slice-2.result.now c.as_slice.result.now
    c.in_ok-text.text.items (map series_seen c.in_ok-all.all.items) c.in_ok-of.of
    c.as_slice-2.ensures.value c.as_slice.ensures.value c.in_ok-all.ensures.1
    c.in_ok-of.ensures).1

pub returns : goal.returns
returns c =
    let fits : SFits w64 c.args.now = search rules in
    written_all (to_z w64 (of_z w64 c.args.now)) c.args.now c.args.body.now
    c.in_ok-text.text.items c.as_slice.result.now c.as_slice-2.result.now c.as_slice-3.result.now
    c.in_ok-all.all.items c.in_ok-of.of c.in_ok-received.field-0 (to_z-of_z w64 _ fits)
    c.as_slice.ensures.value c.as_slice-2.ensures.value c.as_slice-3.ensures.value
    c.in_ok-text.ensures.found c.in_ok-all.ensures c.in_ok-of.ensures c.in_ok-received.ensures
