use Rattle.std.proofs.Common.{List, map, sym, ◌∙◌, ap}
use Rattle.reply_reader.specs.declared.reply.ToldPart.{ToldPart}
use Rattle.auditor.specs.Judgements.{name_of}
use Rattle.whole_audit.proofs.Right.{named_of, of_named}
use Rattle.whole_audit.proofs.wholes.are_named.Goals as goal

pub returns-in-Some : goal.returns-in-Some
returns-in-Some c =
    let last = c.in-Some.last.now in
    let others = c.in-Some.others.now in
    let e = ap (λ (ts : List ToldPart). map name_of ts) c.in-Some.ensures.cases.0 in (
      λ h. e ∙ named_of last others c.args.blocks (sym c.is_end.ensures ∙ h),
      λ n. c.is_end.ensures ∙ of_named last others c.args.blocks (sym e ∙ n),
    )
