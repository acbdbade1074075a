use Rattle.std.proofs.Common.{◌≡◌, true, false, List, sym, ◌∙◌, subst}
use Rattle.reply_reader.specs.declared.reply.ToldPart.{ToldPart}
use Rattle.kept_world.specs.Changes.{events_of}
use Rattle.reply_state.specs.Searches.{AreRightIn, Searches}
use Rattle.reply_state.proofs.Rights.{listed_when, whole_when}
use Rattle.reply_state.proofs.searching.find_reply.Goals as goal

pub returns-then-branch : goal.returns-then-branch
returns-then-branch c =
    let query = c.args.query.now in
    let h =
    subst (Searches (AreRightIn query c.as_slice.result.now) c.args.since c.args.world
    (events_of c.args.changes.now)) c.in-Found.is c.in_ok-at.ensures in
    let right =
    subst (λ (told : List ToldPart). AreRightIn query told h.2.0) c.as_slice.ensures.value h.2.2 in (
      h.0,
      h.1,
      (
        h.2.0,
        h.2.1,
        whole_when query c.args.reply h.2.0 right
            (c.in_ok-are_listed-in-Found.ensures.0 c.if-branch.true),
      ),
    )

pub returns-else-branch : goal.returns-else-branch
returns-else-branch c n s after upto leads whole =
    let listed = c.in_ok-are_listed-in-Found.ensures.1
    (listed_when c.args.query.now c.args.reply s whole) in
    absurd (let e : true ≡ false = sym listed ∙ c.if-branch.false in cc)
