use Rattle.std.proofs.Common.{sym, ◌∙◌}
use Rattle.block.proofs.Places.{first_at}
use Rattle.block.proofs.raw_list.RawListPostings.current.Goals as goal

pub returns : goal.returns
returns c =
    c.args.self.now.placed.head_is ∙ sym (first_at c.args.self.now.entries.0 c.args.self.now.at)
