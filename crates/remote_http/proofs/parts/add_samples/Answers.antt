use Rattle.std.proofs.Common.{◌∙◌, ap}
use Rattle.labels.specs.Labels.{Labels}
use Rattle.labels.specs.Rows.{Row}
use Rattle.remote_http.specs.Filling.{filled}
use Rattle.remote_http.proofs.Fillings.{filled_cut, first_timed, later_timed}
use Rattle.remote_http.proofs.parts.add_samples.Goals as goal

pub add_short-requires-clause-timed : goal.add_short-requires-clause-timed
add_short-requires-clause-timed c =
    first_timed c.args.labels 4096 c.new-first.result c.loop-samples.samples.items c.split_off.new.self.items
    c.in_ok-later.later.items
    (c.new-first.ensures ∙ ap (λ (l : Labels). let row : Row = (l, c.split_off.new.self.items) in row) c.in_ok-try_clone.ensures)
    c.in_ok-later.ensures.items c.in_ok-later.ensures.tail c.loop-samples.invariant.timed

pub loop-samples-preserved : goal.loop-samples-preserved
loop-samples-preserved c = record {
  room = c.in_ok-room.ensures.room;
  timed =
      later_timed c.args.labels 4096 c.loop-samples.samples.items c.split_off.new.self.items c.in_ok-later.later.items
      c.in_ok-later.ensures.items c.in_ok-later.ensures.tail c.loop-samples.invariant.timed;
  whole =
      filled_cut _ (filled c.loop-samples.parts.items c.loop-samples.rows.items) c.args.labels 4096 c.new-first.result
      c.loop-samples.samples.items c.split_off.new.self.items c.in_ok-later.later.items
      (c.new-first.ensures ∙ ap (λ (l : Labels). let row : Row = (l, c.split_off.new.self.items) in row) c.in_ok-try_clone.ensures)
      c.in_ok-later.ensures.items c.in_ok-later.ensures.tail c.in_ok-room.ensures.filled
      ∙ c.loop-samples.invariant.whole;
  batches = λ b. c.in_ok-room.ensures.batches (c.loop-samples.invariant.batches b);
}
