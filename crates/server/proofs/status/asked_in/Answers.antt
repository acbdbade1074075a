use Rattle.server.proofs.Asking.{no_line, no_words}
use Rattle.server.specs.Status.{HasEnd}
use Rattle.server.proofs.status.asked_in.Goals as goal

pub returns-in_default : goal.returns-in_default
returns-in_default c = no_line c.args.head.now c.in_default.ensures

pub returns-in_default-words_of : goal.returns-in_default-words_of
returns-in_default-words_of c =
    no_words c.args.head.now c.in-Some.line.now c.in-Some._fields.now c.in-Some.ensures
    c.in_default-words_of.ensures

pub returns : goal.returns
returns c =
    let ended : HasEnd c.args.head.now = c.has_end.ensures.0 c.if-not-has_end.false in
    c.asked_of.ensures c.args.head.now (
      ended,
      (c.in-Some.line.now, c.in-Some._fields.now, c.in-Some.ensures, c.in-Some-words_of.ensures),
    )
