use Rattle.std.proofs.Common.{arith}
use Rattle.name_table.proofs.Numbers.{number_le}
use Rattle.numbered_text.proofs.writing.put_number.Goals as goal

pub name-requires : goal.name-requires
name-requires c =
    omega (
      arith,
      c.number_of-number.ensures,
      c.len.ensures,
      c.if-number-len.false,
      number_le c.args.label.now c.args.names.now,
    )
