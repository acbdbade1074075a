use Rattle.std.proofs.Common.{◌≡◌, ◌++◌, ◌∷◌, []}
use Rattle.std.proofs.lemmas.Result.{err_from_is_err_and}
use Rattle.std.proofs.lemmas.List.{map_push}
use Rattle.index_reader.specs.Seen.{bytes_of}
use Rattle.index_reader.specs.Reading.Symbols.{symbols_from}
use Rattle.index_reader.proofs.WalkLoops.{goes_on, ends, is_done}
use Rattle.index_reader.proofs.Sound.{symbols_counted}
use Rattle.index_reader.proofs.symbols.symbols_from.Goals as goal

pub returns-in_err-read_symbol-clause-exact : goal.returns-in_err-read_symbol-clause-exact
returns-in_err-read_symbol-clause-exact c =
    let p = err_from_is_err_and c.from_residual.result c.from_residual.ensures.1 in
    rw (p.1, p.2) (ends c.in_err-read_symbol.field-0.0 (bytes_of c.loop.symbols.items) c.args.count
    c.loop.counter c.loop.cut (symbols_from c.args.count c.args.cut.now) c.loop-test.true
    c.in_err-read_symbol.ensures c.loop.invariant)

pub loop-preserved : goal.loop-preserved
loop-preserved c =
    let s = c.in_ok-read_symbol.field-0 in
    let e : bytes_of c.push.new.self.items ≡ bytes_of c.loop.symbols.items ++ s.now ∷ [] =
    rw c.in_ok-push.ensures.items (map_push _ c.loop.symbols.items s) in
    rw e (goes_on (bytes_of c.loop.symbols.items) c.args.count c.loop.counter c.loop.cut s.now
    c.read_symbol.new.cut (symbols_from c.args.count c.args.cut.now) c.loop-test.true
    c.in_ok-read_symbol.ensures c.loop.invariant)

pub returns-clause-exact : goal.returns-clause-exact
returns-clause-exact c =
    is_done (bytes_of c.loop.symbols.items) c.args.count c.loop.counter c.loop.cut
    (symbols_from c.args.count c.args.cut.now) c.loop-test.false c.loop.invariant

pub returns-clause-counted : goal.returns-clause-counted
returns-clause-counted c =
    symbols_counted c.args.count c.args.cut.now c.loop.symbols.items c.loop.cut
    (is_done (bytes_of c.loop.symbols.items) c.args.count c.loop.counter c.loop.cut
    (symbols_from c.args.count c.args.cut.now) c.loop-test.false c.loop.invariant)
