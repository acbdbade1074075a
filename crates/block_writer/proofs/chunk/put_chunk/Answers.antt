use Rattle.std.proofs.Common.{arith}
use Rattle.std.proofs.lemmas.Result.{on_ok_weaker}
use Rattle.block_writer.proofs.Lengths.{chunk_is}
use Rattle.block_writer.proofs.chunk.put_chunk.Goals as goal

pub returns-clause-text : goal.returns-clause-text
returns-clause-text c =
    on_ok_weaker c.put_sum.result
    (chunk_is c.args.out.now.items c.put_uvarint.new.out.items c.put_content.new.out.items
    c.put_sum.new.out.items c.len-start.result c.args.samples.now (omega (
      arith,
      c.len-start.ensures,
      c.put_uvarint.new.out.ok.0,
    )) c.in_ok-put_uvarint.ensures.ok c.in_ok-put_content.ensures.text)
    c.put_sum.ensures

pub returns-clause-typed : goal.returns-clause-typed
returns-clause-typed c =
    on_ok_weaker c.put_sum.result (λ _. c.in_ok-put_content.ensures.typed) c.put_sum.ensures
