use Rattle.std.proofs.Common.{◌≡◌, ◌++◌, take}
use Rattle.std.specs.List.{All, flat_map}
use Rattle.chunk_reader.specs.Grammar.{sample_text}
use Rattle.block_writer.specs.Typed.{IsOf64Bits}
use Rattle.block_writer.proofs.chunk.put_samples.Given as goal

abbrev pub invariant-loop-sample : goal.invariant-loop-sample
invariant-loop-sample l = record {
  text : l.out.items ≡ l.initial.out.items ++ flat_map sample_text (take l.sample-index l.samples);
  typed : All IsOf64Bits (take l.sample-index l.samples);
}
