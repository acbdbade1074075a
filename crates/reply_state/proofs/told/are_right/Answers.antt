use Rattle.std.proofs.lemmas.Slice.Zip.{AllZip-long}
use Rattle.whole_audit.specs.Wholes.{IsRightOf}
use Rattle.reply_state.proofs.told.are_right.Goals as goal

pub returns-then-told-blocks : goal.returns-then-told-blocks
returns-then-told-blocks c = (
  λ t. absurd cc,
  λ right. absurd (c.if-told-blocks.true (AllZip-long (IsRightOf c.args.query.now) c.args.blocks.now
      c.args.told.now right.each)),
)
