use Rattle.std.proofs.Common.{◌≤◌, arith, vec_len, subst, sym}
use Rattle.std.proofs.KnownBytes.{Consumes-trans}
use Rattle.std.specs.Io.KnownBytes.{Consumes}
use Rattle.requests.proofs.HeadTexts.{bad_from_never}
use Rattle.requests.proofs.head.read_head.Goals as goal

pub returns-in-Never-clause-err : goal.returns-in-Never-clause-err
returns-in-Never-clause-err g c =
    let read = c.in_ok-read_some.ensures.bytes in
    let all = c.read_some.new.buf.items in
    let taken : Consumes (g.R.Inlet.input c.args.reader.now) (g.R.Inlet.input
    c.read_some.new.reader) all =
    subst (Consumes _ _) (sym read.1) (Consumes-trans _ _ _ _ _ c.loop-buf.invariant.1 read.2) in
    let fits : vec_len c.read_some.new.buf ≤ 8192 = grind arith in
    bad_from_never _ _ all taken (rw c.read_some.new.buf.ok.0 at fits) (rw c.as_slice.ensures.value
    at c.in-Never.ensures)
