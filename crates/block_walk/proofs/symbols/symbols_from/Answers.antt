use Rattle.std.proofs.Common.{◌≡◌, ◌++◌, ◌∷◌, []}
use Rattle.std.proofs.lemmas.Result.{err_from_is_err_and}
use Rattle.std.proofs.lemmas.List.{map_push}
use Rattle.block_walk.specs.IndexFile.Seen.{texts}
use Rattle.block_walk.specs.IndexFile.Reading.{symbols_from}
use Rattle.block_walk.proofs.IndexFile.WalkLoops.{goes_on, ends, is_done}
use Rattle.block_walk.proofs.symbols.symbols_from.Goals as goal

pub returns-in_err-symbol : goal.returns-in_err-symbol
returns-in_err-symbol c =
    let p = err_from_is_err_and c.from_residual.result c.from_residual.ensures.1 in
    rw (p.1, p.2) (ends c.in_err-symbol.field-0.0 (texts c.loop.symbols.items) c.args.count
    c.loop.counter c.loop.rest.now (symbols_from c.args.count c.args.bytes.now) c.loop-test.true
    c.in_err-symbol.ensures c.loop.invariant)

pub loop-preserved : goal.loop-preserved
loop-preserved c =
    let s = c.in_ok-symbol.symbol in
    let e : texts c.push.new.self.items ≡ texts c.loop.symbols.items ++ s.now ∷ [] =
    rw c.in_ok-push.ensures.items (map_push _ c.loop.symbols.items s) in
    rw e (goes_on (texts c.loop.symbols.items) c.args.count c.loop.counter c.loop.rest.now s.now
    c.in_ok-symbol.after.now (symbols_from c.args.count c.args.bytes.now) c.loop-test.true
    c.in_ok-symbol.ensures c.loop.invariant)

pub returns : goal.returns
returns c =
    is_done (texts c.loop.symbols.items) c.args.count c.loop.counter c.loop.rest.now
    (symbols_from c.args.count c.args.bytes.now) c.loop-test.false c.loop.invariant
