use Rattle.std.proofs.Common.{arith}
use Rattle.chunk_reader.specs.Grammar.{sample_text}
use Rattle.block_writer.specs.Typed.{IsOf64Bits}
use Rattle.block_writer.proofs.Spelled.{one_more}
use Rattle.block_writer.proofs.Taken.{all_and, all_of_them}
use Rattle.block_writer.proofs.chunk.put_samples.Goals as goal

pub loop-sample-preserved : goal.loop-sample-preserved
loop-sample-preserved c =
    let samples = c.args.samples.now in
    let i = c.loop-sample.sample-index in
    let sample = c.sample-item.result in
    record {
      text =
          one_more sample_text c.args.out.now.items c.loop-sample.out.items _ samples i sample
          (omega arith) c.sample-item.is c.loop-sample.invariant.text
          c.in_ok-put_sample.ensures.text;
      typed =
          all_and IsOf64Bits samples i sample (omega arith) c.sample-item.is
          c.loop-sample.invariant.typed c.in_ok-put_sample.ensures.typed;
    }

pub returns-clause-typed : goal.returns-clause-typed
returns-clause-typed c =
    all_of_them IsOf64Bits c.args.samples.now c.loop-sample.sample-index (omega arith)
    c.loop-sample.invariant.typed
