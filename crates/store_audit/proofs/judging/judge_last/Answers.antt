use Rattle.std.proofs.Common.{List, None, Some, arith, refl, subst}
use Rattle.labels.specs.Parts.{Part}
use Rattle.reply_reader.specs.declared.reply.ToldPart.{ToldPart}
use Rattle.whole_audit.specs.StateLines.{AreStateLines}
use Rattle.whole_audit.specs.Wholes.{AreRightOf}
use Rattle.kept_world.specs.States.{numbered, shown}
use Rattle.store_audit.proofs.Reporting.{is_last}
use Rattle.store_audit.proofs.judging.judge_last.Goals as goal

pub returns : goal.returns
returns c =
    let world = c.args.world in
    let query = c.args.query.now in
    let reply = c.args.reply in
    let head = c.in_ok-head.head in
    let of_head = c.in_ok-head.ensures in
    let parts = c.as_slice-parts.result.now in
    let lines = c.in_ok-lines.lines.items in
    let right =
    subst (λ (told : List ToldPart). AreRightOf query world.blocks (numbered 1 (shown world.head)) told)
    c.as_slice-parts.ensures.value
    (subst (λ (h : Part). AreRightOf query world.blocks h parts) of_head
    (subst (λ (bs : List Part). AreRightOf query bs head parts) c.blocks-else-events-since.ensures
    (c.in_ok-are_right.ensures.0 c.if-not-branch.false))) in
    let told =
    subst (λ (h : Part). AreStateLines world.blocks h query reply lines) of_head
    (subst (λ (bs : List Part). AreStateLines bs head query reply lines) c.blocks-2.ensures
    c.in_ok-lines.ensures) in
    record {
      told = λ first es many leads. is_last query reply c.args.since first es
          (record {
            lines = c.in_ok-lines.lines;
            found = Some c.args.events;
            earlier = None;
            told = c.args.events;
            events = c.args.events;
          })
          c.args.events world many (omega arith) leads right told refl refl refl refl;
      back = tt;
    }
