use Rattle.std.proofs.Common.{ℕ, List, arith}
use Rattle.std.proofs.lemmas.List.{length-map}
use Rattle.std.proofs.lemmas.Result.{err_from_is_err_and}
use Rattle.index_reader.specs.Seen.{bytes_of}
use Rattle.index_reader.specs.Grammar.{symbol}
use Rattle.block_writer.specs.IndexText.{symbols_text}
use Rattle.block_writer.proofs.Lengths.{too_many, symbols_long}
use Rattle.block_writer.proofs.Walking.{flat_on}
use Rattle.block_writer.proofs.Building.{text_here}
use Rattle.block_writer.proofs.index_file.symbols_content.Goals as goal

pub returns-in_err-within-clause-reason : goal.returns-in_err-within-clause-reason
returns-in_err-within-clause-reason c =
    let p = err_from_is_err_and c.from_residual.result c.from_residual.ensures.1 in
    rw p.1 (too_many p.0 _ (symbols_text (bytes_of c.args.symbols.now)) (omega (
      arith,
      symbols_long (bytes_of c.args.symbols.now),
      length-map {B = List ℕ} c.args.symbols.now (λ s. s.now),
    )) c.in_err-within.ensures.long)

pub loop-symbol-preserved : goal.loop-symbol-preserved
loop-symbol-preserved c =
    flat_on symbol c.loop-symbol.content.items c.put_symbol.new.out.items
    (bytes_of c.args.symbols.now) c.loop-symbol.symbol-index _ _ (text_here c.args.symbols.now
    c.loop-symbol.symbol-index _ (omega arith)) c.in_ok-put_symbol.ensures c.loop-symbol.invariant
