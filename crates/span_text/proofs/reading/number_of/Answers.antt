use Rattle.std.proofs.lemmas.Str.{IsUtf8-from_ascii}
use Rattle.span_text.proofs.Digits.{number_ascii}
use Rattle.span_text.proofs.reading.number_of.Goals as goal

pub returns-in_default-clause-none : goal.returns-in_default-clause-none
returns-in_default-clause-none c = λ n is small.
    c.in_default.ensures.cases.0 (IsUtf8-from_ascii c.args.digits.now
    (number_ascii c.args.digits.now is.numeral.1))
