use Rattle.std.proofs.Common.{◌<◌, ◌^◌, ◌∙◌, arith}
use Rattle.block_outputs.specs.Names.{output_name, unfinished_name}
use Rattle.block_outputs.proofs.Digits.{are_two, output_named, unfinished_named}
use Rattle.block_outputs.proofs.output.write_output.Goals as goal

pub write_in-requires-clause-place : goal.write_in-requires-clause-place
write_in-requires-clause-place g c =
    let n = c.args.number in
    let small : n < 2 ^ 64 = omega (arith, c.ranges.number) in
    record {
      own = output_name n;
      other = unfinished_name n;
      block = c.as_str.ensures.value ∙ c.in_ok-name.ensures;
      unfinished = c.as_str-2.ensures.value ∙ c.in_ok-unfinished.ensures;
      own_is = output_named n small;
      other_is = unfinished_named n small;
      are_two = are_two n;
    }
