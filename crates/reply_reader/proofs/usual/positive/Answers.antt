use Rattle.std.proofs.Common.{◌≡◌, ◌<◌, true, sym, pos, rules, w64, SFits}
use Rattle.std.specs.Prelude.{nat_lt}
use Rattle.std.proofs.lemmas.Int.{to_z-of_z}
use Rattle.reply_reader.proofs.Naming.{number_read}
use Rattle.reply_reader.proofs.usual.positive.Goals as goal

pub returns-in-Ok : goal.returns-in-Ok
returns-in-Ok c =
    let n = c.in_ok-number.number in
    let fits : n < 18446744073709551616 = search rules in
    let small : nat_lt n 9223372036854775808 ≡ true = search rules in
    let value : c.in-Ok.value ≡ pos n = search rules in
    let held : SFits w64 c.in-Ok.value = search rules in
    rw (
      to_z-of_z w64 _ held,
      number_read c.args.digits.now n (sym c.in_ok-number.ensures) fits,
      small,
      value,
    )
