use Rattle.std.proofs.Common.{arith}
use Rattle.numbered_text.proofs.Writes.{label_written}
use Rattle.numbered_text.proofs.writing.number_label.Goals as goal

pub returns-clause-ok : goal.returns-clause-ok
returns-clause-ok c =
    label_written c.args.names.now c.put_number.new.names c.in_ok-label.label.now
    c.args.bytes.now c.in_ok-label.rest.now c.args.out.now.items c.put_number.new.out.items
    (λ i. omega (arith, c.type_inv.bytes i)) c.in_ok-label.ensures c.put_number.ensures.small
    c.in_ok-put_number.ensures.old c.in_ok-put_number.ensures.new
