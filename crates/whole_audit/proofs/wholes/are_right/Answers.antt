use Rattle.std.proofs.Common.{◌≡◌, ◌++◌, List, [], ◌∷◌, length, map, sym, ◌∙◌, ap, subst}
use Rattle.std.specs.List.{AllZip}
use Rattle.labels.proofs.Times.{true_not_false}
use Rattle.reply_reader.specs.declared.reply.ToldPart.{ToldPart}
use Rattle.auditor.specs.Judgements.{name_of}
use Rattle.whole_audit.specs.Wholes.{IsRightOf}
use Rattle.whole_audit.proofs.Right.{as_many, zip_push, zip_split}
use Rattle.whole_audit.proofs.wholes.are_right.Goals as goal
use Rattle.whole_audit.proofs.wholes.are_right.Goals.{After-split_last}

pub are_right_blocks-requires : goal.are_right_blocks-requires
are_right_blocks-requires c =
    as_many c.in-Some.last.now c.in-Some.others.now (length c.args.blocks.now)
    (sym (ap (λ (ts : List ToldPart). map name_of ts) c.in-Some.ensures.cases.0)
    ∙ c.are_named.ensures.0 c.if-not-are_named.false)

pub returns-then-not-branch : goal.returns-then-not-branch
returns-then-not-branch c =
    let R = IsRightOf c.args.query.now in
    let blocks = c.args.blocks.now in
    let last = c.in-Some.last.now in
    let others = c.in-Some.others.now in
    let same : length others ≡ length blocks =
    as_many last others (length blocks)
    (sym (ap (λ (ts : List ToldPart). map name_of ts) c.in-Some.ensures.cases.0)
    ∙ c.are_named.ensures.0 c.if-not-are_named.false) in (
      λ h. absurd (true_not_false (sym h)),
      λ r. absurd (true_not_false
          (sym (c.in_ok-are_right_blocks-in-Some.ensures.1
          (zip_split R blocks others c.args.head.now last (sym same)
          (subst (λ (ts : List ToldPart). AllZip R (blocks ++ c.args.head.now ∷ []) ts)
          c.in-Some.ensures.cases.0 r.each)).0)
          ∙ c.if-not-branch.true)),
    )

pub returns-in_ok-is_right-in-Some : goal.returns-in_ok-is_right-in-Some
returns-in_ok-is_right-in-Some c =
    let R = IsRightOf c.args.query.now in
    let blocks = c.args.blocks.now in
    let last = c.in-Some.last.now in
    let others = c.in-Some.others.now in
    let same : length others ≡ length blocks =
    as_many last others (length blocks)
    (sym (ap (λ (ts : List ToldPart). map name_of ts) c.in-Some.ensures.cases.0)
    ∙ c.are_named.ensures.0 c.if-not-are_named.false) in (
      λ h. record {
        named = c.are_named.ensures.0 c.if-not-are_named.false;
        each = subst (λ (ts : List ToldPart). AllZip R (blocks ++ c.args.head.now ∷ []) ts)
            (sym c.in-Some.ensures.cases.0)
            (zip_push R blocks others c.args.head.now last
            (c.in_ok-are_right_blocks-in-Some.ensures.0 c.if-not-branch.false)
            (c.in_ok-is_right-in-Some.ensures.0 h));
      },
      λ r. c.in_ok-is_right-in-Some.ensures.1
          (zip_split R blocks others c.args.head.now last (sym same)
          (subst (λ (ts : List ToldPart). AllZip R (blocks ++ c.args.head.now ∷ []) ts)
          c.in-Some.ensures.cases.0 r.each)).1,
    )
