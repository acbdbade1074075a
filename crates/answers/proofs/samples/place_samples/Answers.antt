use Rattle.std.proofs.Common.{length, arith, ◌∙◌, sym, ap}
use Rattle.std.proofs.lemmas.List.{drop_all}
use Rattle.answers.specs.Body.{sample_data}
use Rattle.answers.specs.AfterCommas.{after_commas}
use Rattle.answers.proofs.samples.place_samples.Goals as goal

pub loop-left-init : goal.loop-left-init
loop-left-init c = record {
  within = omega arith;
  room = omega (arith, c.requires);
  start = omega arith;
  written =
      drop_all 2816 c.args.buf.now (omega arith)
      ∙ sym (ap (after_commas sample_data)
      (drop_all (length c.args.samples.now) c.args.samples.now (omega arith)));
}
