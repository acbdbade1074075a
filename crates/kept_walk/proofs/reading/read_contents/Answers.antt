use Rattle.std.proofs.Common.{Err, ap, sym, subst, ◌∙◌}
use Rattle.journal.specs.Contents.{contents_in}
use Rattle.kept_walk.specs.Parts.{FindsHead}
use Rattle.kept_walk.specs.declared.fault.Fault.{Fault}
use Rattle.kept_walk.proofs.reading.read_contents.Goals as goal

pub returns-in-Err-Form : goal.returns-in-Err-Form
returns-in-Err-Form c =
    let none =
    subst (FindsHead (contents_in c.args.contents.now))
    (c.in-Err-Form.is ∙ ap (λ (e : Fault). Err e) c.in-Err-Form.field-0-is) c.read_head.ensures in (
      sym c.begins_event.ensures ∙ c.if-begins_event.false,
      λ store behind h. none (store, behind) h,
    )
