use Rattle.std.proofs.Common.{◌≡◌, ◌++◌, ◌∷◌, ◌∙◌, [], List, length, sym, ap, arith, append_assoc}
use Rattle.std.proofs.lemmas.List.{append-nil}
use Rattle.std.specs.Vec.Iter.{into_iter_items}
use Rattle.labels.specs.Rows.{Row}
use Rattle.head.specs.BatchRows.{batch_of_rows, pairs_with}
use Rattle.head.specs.Worlds.{Batch}
use Rattle.remote_http.proofs.Fillings.{batch_more, cut_last, nothing_left, timed_row}
use Rattle.remote_http.proofs.parts.cut.Goals as goal

pub add_row-requires-clause-timed : goal.add_row-requires-clause-timed
add_row-requires-clause-timed c =
    timed_row c.args.rows.items c.loop-row.yielded (into_iter_items c.next.new.self) c.in-Some.row
    (c.loop-row.invariant.rest ∙ ap (λ (rs : List Row). c.loop-row.yielded ++ rs) c.in-Some.ensures.steps.0) c.requires

pub loop-row-preserved : goal.loop-row-preserved
loop-row-preserved c =
    let step = c.in-Some.ensures.steps.0 in
    let size = ap length step in
    let fewer = c.in-Some.ensures.steps.1 in
    let before = c.loop-row.invariant.left in
    record {
      room = c.in_ok-room.ensures.room;
      whole =
          c.in_ok-room.ensures.filled
          ∙ ap (λ (xs : Batch). xs ++ pairs_with c.in-Some.row.0 c.in-Some.row.1) c.loop-row.invariant.whole
          ∙ sym (batch_more c.loop-row.yielded c.in-Some.row);
      batches = c.in_ok-room.ensures.batches c.loop-row.invariant.batches;
      left = omega arith;
      rest =
          c.loop-row.invariant.rest ∙ ap (λ (rs : List Row). c.loop-row.yielded ++ rs) step
          ∙ sym (append_assoc c.loop-row.yielded (c.in-Some.row ∷ []) (into_iter_items c.next.new.self));
    }

pub returns : goal.returns
returns c =
    let empty : into_iter_items c.loop-row.row-iterator ≡ [] =
    nothing_left _ (sym c.loop-row.invariant.left ∙ c.in-None.ensures.steps.0) in
    let taken : c.loop-row.yielded ≡ c.args.rows.items =
    sym (c.loop-row.invariant.rest ∙ ap (λ (rs : List Row). c.loop-row.yielded ++ rs) empty ∙ append-nil c.loop-row.yielded) in
    cut_last c.args.rows.items c.loop-row.parts.items c.end_part.new.parts.items c.loop-row.open.items c.loop-row.room
    c.in_ok-end_part.ensures.parts c.loop-row.invariant.room (c.loop-row.invariant.whole ∙ ap batch_of_rows taken)
    c.loop-row.invariant.batches
