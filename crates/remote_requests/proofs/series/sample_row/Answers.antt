use Rattle.std.proofs.Common.{◌≡◌, ◌<◌, length, vec_len, rules, sym, arith, SFits, w64, to_z, of_z}
use Rattle.std.proofs.lemmas.Bool.{eqb-true, eqb-false}
use Rattle.std.proofs.lemmas.Int.{to_z-of_z}
use Rattle.remote_requests.proofs.RowTurns.{row_none, row_some}
use Rattle.remote_requests.proofs.series.sample_row.Goals as goal

pub returns-then-is_empty-clause-row : goal.returns-then-is_empty-clause-row
returns-then-is_empty-clause-row c =
    let fits : SFits w64 c.args.now = search rules in
    let labelled = rw c.in-Ok.is at c.in_ok-labels.ensures in
    let empty = eqb-true (vec_len c.in_ok-samples.samples) 0 (sym c.if-is_empty.ensures) in
    let none : length c.in_ok-samples.samples.items ≡ 0 =
    omega (arith, empty, c.in_ok-samples.samples.ok) in
    row_none (to_z w64 (of_z w64 c.args.now)) c.args.now c.args.series.now c.as_slice.result.now
    c.as_slice-2.result.now c.in-Ok.labels c.in_ok-samples.samples.items (to_z-of_z w64 _ fits)
    c.as_slice.ensures.value c.as_slice-2.ensures.value labelled c.in_ok-samples.ensures.kept none

pub returns-clause-row : goal.returns-clause-row
returns-clause-row c =
    let fits : SFits w64 c.args.now = search rules in
    let labelled = rw c.in-Ok.is at c.in_ok-labels.ensures in
    let full = eqb-false (vec_len c.in_ok-samples.samples) 0 (sym c.if-is_empty.ensures) in
    let some : 0 < length c.in_ok-samples.samples.items =
    omega (arith, full, c.in_ok-samples.samples.ok) in
    row_some (to_z w64 (of_z w64 c.args.now)) c.args.now c.args.series.now c.as_slice.result.now
    c.as_slice-2.result.now c.in-Ok.labels c.in_ok-samples.samples.items c.new.result
    (to_z-of_z w64 _ fits) c.as_slice.ensures.value c.as_slice-2.ensures.value labelled
    c.in_ok-samples.ensures.kept some c.new.ensures
