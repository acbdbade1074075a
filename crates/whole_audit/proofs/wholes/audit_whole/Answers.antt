use Rattle.std.proofs.Common.{◌≡◌, ◌++◌, List, [], ◌∷◌, sym, ◌∙◌, ap, subst}
use Rattle.labels.specs.Rows.{Row, AreRows}
use Rattle.labels.specs.Parts.{content_of}
use Rattle.matchers.specs.Queries.{selected_by}
use Rattle.auditor.specs.Listing.{last_listed}
use Rattle.reply_reader.specs.declared.reply.ToldPart.{ToldPart}
use Rattle.whole_audit.specs.Wholes.{AreRightOf}
use Rattle.whole_audit.proofs.Merged.{whole_listed}
use Rattle.whole_audit.proofs.wholes.audit_whole.Goals as goal

pub returns : goal.returns
returns c =
    let query = c.args.query.now in
    let blocks = c.args.blocks.now in
    let head = c.args.head.now in
    let right : AreRightOf query blocks head c.args.reply.parts.items =
    subst (λ (ts : List ToldPart). AreRightOf query blocks head ts) c.as_slice.ensures.value
    (c.in_ok-are_right.ensures.0 c.if-not-branch.false) in
    let listed : last_listed c.as_slice-2.result.now
    ≡ selected_by query (content_of (blocks ++ head ∷ [])) =
    ap last_listed (c.as_slice-2.ensures.value ∙ c.in_ok-answers.ensures)
    ∙ whole_listed query (blocks ++ head ∷ []) c.args.reply.parts.items right.each in (
      λ h. record {
        parts = right;
        rows = subst (AreRows c.args.reply.rows.items) listed
            (subst (λ (rows : List Row). AreRows rows (last_listed c.as_slice-2.result.now))
            c.as_slice-3.ensures.value (c.in_ok-are_listed.ensures.0 h));
      },
      λ w. c.in_ok-are_listed.ensures.1
          (subst (λ (rows : List Row). AreRows rows (last_listed c.as_slice-2.result.now))
          (sym c.as_slice-3.ensures.value)
          (subst (AreRows c.args.reply.rows.items) (sym listed) w.rows)),
    )
