use Rattle.std.proofs.Common.{◌≡◌, drop}
use Rattle.reply_reader.specs.Replies.{digits_from}
use Rattle.reply_reader.proofs.reading.number_by_digits.Given as goal

abbrev pub invariant-loop-digit : goal.invariant-loop-digit
invariant-loop-digit l = digits_from 0 l.digits ≡ digits_from l.number (drop l.digit-index l.digits)
