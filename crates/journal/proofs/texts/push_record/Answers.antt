use Rattle.std.proofs.Common.{◌≡◌, true, length, arith, rules}
use Rattle.journal.specs.Records.{is_length}
use Rattle.journal.proofs.Keeping.{record_more}
use Rattle.journal.proofs.texts.push_record.Goals as goal

pub returns-clause-fits : goal.returns-clause-fits
returns-clause-fits c =
    let sized : is_length (length c.args.content.now) ≡ true = search rules in
    record { bytes = λ i. omega (arith, c.type_inv.content i); sized = sized }

pub returns-clause-together : goal.returns-clause-together
returns-clause-together c contents are =
    record_more contents c.args.content.now c.args.records.now.items c.put_record.new.out.items
    (returns-clause-fits c) are c.in_ok-put_record.ensures
