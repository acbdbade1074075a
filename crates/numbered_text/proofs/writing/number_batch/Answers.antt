use Rattle.std.proofs.Common.{◌∷◌, ◌++◌, [], ap, subst₂, ◌∙◌, arith, List, ℕ}
use Rattle.std.specs.Prelude.{ℤ}
use Rattle.numbered_text.specs.Each.{many_at}
use Rattle.numbered_text.specs.Reading.{run_at}
use Rattle.numbered_text.specs.Writing.{Writes}
use Rattle.numbered_text.proofs.Writes.{batch_written}
use Rattle.numbered_text.proofs.writing.number_batch.Goals as goal

pub returns-clause-ok : goal.returns-clause-ok
returns-clause-ok c =
    let names = c.args.names.now in
    let n = c.number_runs.new in
    batch_written names n.names n.time c.args.bytes.now c.in_ok-rest.rest.now n.out.items
    (omega (arith, c.len.ensures, c.if-rest-gt0.false))
    (subst₂ (λ (t : ℤ) (old : List ℕ). Writes (many_at run_at) (names, t) (n.names, n.time)
    c.args.bytes.now c.in_ok-rest.rest.now old n.out.items) c.new-time.ensures
    (c.in_ok-put_u8.ensures.ok ∙ ap (λ (y : List ℕ). y ++ 4 ∷ []) c.new-out.ensures.items)
    c.in_ok-rest.ensures.ok)
