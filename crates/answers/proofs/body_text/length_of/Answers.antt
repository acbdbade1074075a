use Rattle.std.proofs.Common.{◌++◌, length, ap, arith, length-append}
use Rattle.std.specs.Prelude.{codes}
use Rattle.std.proofs.lemmas.Result.{IfOk-weaker}
use Rattle.answers.specs.Joined.{joined}
use Rattle.answers.specs.Kept.{again_in}
use Rattle.answers.proofs.body_text.length_of.Goals as goal

pub returns : goal.returns
returns c =
    let text = c.args.text.now in
    IfOk-weaker c.length_in-2.result _ _
    (λ n is. omega (
      arith,
      is,
      c.in_ok-first.ensures,
      ap (λ pieces. length (joined pieces)) c.first.ensures,
      ap (λ pieces. length (joined pieces)) c.again.ensures,
      length-append (joined text.pieces.items) (again_in text ++ codes "}"),
      length-append (again_in text) (codes "}"),
    )) c.length_in-2.ensures
