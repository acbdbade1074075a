use Rattle.std.proofs.Common.{◌≡◌, ◌*◌, ◌≤◌, length, drop}
use Rattle.answers.specs.Body.{sample_data}
use Rattle.answers.specs.AfterCommas.{after_commas}
use Rattle.answers.proofs.samples.place_samples.Given as goal

abbrev pub invariant-loop-left : goal.invariant-loop-left
invariant-loop-left l = record {
  within : l.left ≤ length l.samples;
  room : 44 * l.left ≤ l.at;
  start : l.at ≤ 2816;
  written : drop l.at l.buf ≡ after_commas sample_data (drop l.left l.samples);
}

abbrev pub decreases-loop-left : goal.decreases-loop-left
decreases-loop-left l = l.left
