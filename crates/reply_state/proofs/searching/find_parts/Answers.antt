use Rattle.std.proofs.Common.{◌≡◌, ◌++◌, ◌∷◌, [], List, ap, ◌∙◌, subst}
use Rattle.labels.specs.Parts.{Part}
use Rattle.reply_reader.specs.declared.reply.ToldPart.{ToldPart}
use Rattle.reply_reader.specs.declared.reply.ToldPart.TheVariants.{Searched}
use Rattle.auditor.specs.Auditing.{IsSoundAnswer}
use Rattle.whole_audit.specs.Wholes.{AreRightOf}
use Rattle.kept_world.specs.Changes.{events_of}
use Rattle.kept_world.specs.States.{numbered, shown}
use Rattle.state_search.specs.Searching.{IsRightBy}
use Rattle.reply_state.specs.Searches.{AreRightBlocks, AreRightIn}
use Rattle.reply_state.proofs.Rights.{blocks_apart, head_apart, last_is_head, none_of_none, none_so}
use Rattle.reply_state.proofs.Rights.{searches_so, together}
use Rattle.reply_state.proofs.searching.find_parts.Goals as goal

pub returns-in_ok-find_state-in-Some-of_head : goal.returns-in_ok-find_state-in-Some-of_head
returns-in_ok-find_state-in-Some-of_head c =
    let query = c.args.query.now in
    let parts = c.args.parts.now in
    let told = c.in-Some.others.now in
    let answer = c.in-Some-of_head.head.now in
    let named = c.in-Some-of_head.ensures.some.1 in
    let parted : parts ≡ told ++ Searched answer ∷ [] =
    c.in-Some.ensures.cases.0
    ∙ ap (λ (t : ToldPart). told ++ t ∷ []) c.in-Some-of_head.ensures.some.0 in
    searches_so
    (IsRightBy (λ (blocks : List Part). AreRightBlocks query blocks parts told)
    (λ (part : Part). IsSoundAnswer part query answer))
    (AreRightIn query parts) c.args.since c.args.world (events_of c.args.changes.now)
    c.in_ok-find_state-in-Some-of_head.field-0
    (λ s h. together query s.blocks (numbered 1 (shown s.head)) told parts answer named parted h.0 h.1)
    (λ s h. (
      blocks_apart query s.blocks (numbered 1 (shown s.head)) told parts answer named parted h,
      head_apart query s.blocks (numbered 1 (shown s.head)) told parts answer named parted h,
    ))
    c.in_ok-find_state-in-Some-of_head.ensures

pub returns-in_ok-find_none-in-None-of_head : goal.returns-in_ok-find_none-in-None-of_head
returns-in_ok-find_none-in-None-of_head c =
    let query = c.args.query.now in
    let parts = c.args.parts.now in
    none_so (AreRightIn query parts) c.args.since c.args.world (events_of c.args.changes.now)
    c.in_ok-find_none-in-None-of_head.field-0
    (λ s right. c.in-None-of_head.ensures.none
    (last_is_head query s.blocks (numbered 1 (shown s.head)) c.in-Some.others.now
    c.in-Some.last.now
    (subst (AreRightOf query s.blocks (numbered 1 (shown s.head))) c.in-Some.ensures.cases.0
    right)))
    (c.in_ok-find_none-in-None-of_head.ensures c.args.since)

pub returns-in_ok-find_none-in-None : goal.returns-in_ok-find_none-in-None
returns-in_ok-find_none-in-None c =
    let query = c.args.query.now in
    let parts = c.args.parts.now in
    none_so (AreRightIn query parts) c.args.since c.args.world (events_of c.args.changes.now)
    c.in_ok-find_none-in-None.field-0
    (λ s right. none_of_none query s.blocks (numbered 1 (shown s.head)) parts
    c.in-None.ensures.cases right)
    (c.in_ok-find_none-in-None.ensures c.args.since)
