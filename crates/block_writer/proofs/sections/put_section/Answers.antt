use Rattle.std.proofs.Common.{◌≡◌, length, arith}
use Rattle.std.proofs.lemmas.Result.{err_from_is_err_and}
use Rattle.block_writer.proofs.Lengths.{too_many, section_is, section_long}
use Rattle.block_writer.specs.IndexText.{section_text}
use Rattle.block_writer.proofs.sections.put_section.Goals as goal

pub returns-in_err-count-clause-reason : goal.returns-in_err-count-clause-reason
returns-in_err-count-clause-reason c =
    let p = err_from_is_err_and c.from_residual.result c.from_residual.ensures.1 in
    rw p.1 (too_many p.0 _ (section_text c.args.references.now) (omega (
      arith,
      section_long c.args.references.now,
    )) c.in_err-count.ensures.long)

pub returns-in_err-len-clause-reason : goal.returns-in_err-len-clause-reason
returns-in_err-len-clause-reason c =
    let p =
    err_from_is_err_and c.from_residual-in_err-len.result c.from_residual-in_err-len.ensures.1 in
    rw p.1 (too_many p.0 _ (section_text c.args.references.now) (omega (
      arith,
      section_long c.args.references.now,
    )) c.in_err-len.ensures.long)

pub returns-clause-text : goal.returns-clause-text
returns-clause-text c =
    let start : c.len-start.result ≡ length c.put_be32.new.out.items =
    omega (arith, c.len-start.ensures, c.put_be32.new.out.ok.0) in
    section_is c.args.out.now.items c.put_be32.new.out.items c.put_be32-2.new.out.items
    c.put_references.new.out.items c.put_sum.new.out.items c.in_ok-len.len c.in_ok-count.count
    c.args.references.now c.in_ok-count.ensures.same c.in_ok-len.ensures.same
    c.in_ok-put_be32.ensures.ok c.in_ok-put_be32-2.ensures.ok c.in_ok-put_references.ensures
    (rw start at c.in_ok-put_sum.ensures)
