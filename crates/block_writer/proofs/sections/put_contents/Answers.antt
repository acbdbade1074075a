use Rattle.std.proofs.Common.{◌≡◌, length, arith}
use Rattle.block_writer.proofs.Lengths.{contents_is}
use Rattle.block_writer.proofs.sections.put_contents.Goals as goal

pub returns : goal.returns
returns c =
    let start : c.len-start.result ≡ length c.args.out.now.items =
    omega (arith, c.len-start.ensures, c.args.out.now.ok.0) in
    contents_is c.args.out.now.items c.put_be64.new.out.items c.put_be64-2.new.out.items
    c.put_be64-3.new.out.items c.put_be64-4.new.out.items c.put_be64-5.new.out.items
    c.put_be64-6.new.out.items c.put_sum.new.out.items c.args.series c.args.postings c.args.offsets
    c.in_ok-put_be64.ensures.ok c.in_ok-put_be64-2.ensures.ok c.in_ok-put_be64-3.ensures.ok
    c.in_ok-put_be64-4.ensures.ok c.in_ok-put_be64-5.ensures.ok c.in_ok-put_be64-6.ensures.ok
    (rw start at c.in_ok-put_sum.ensures)
