use Rattle.std.proofs.Common.{sym, ap, ◌∙◌}
use Rattle.std.specs.List.{range_with_len}
use Rattle.head.specs.HeadRowLaws.{references-numbered}
use Rattle.head.proofs.source.RefHeadViewSource.all.Goals as goal

pub returns : goal.returns
returns c = c.new.ensures ∙ ap (range_with_len 1) c.len.ensures ∙ sym (references-numbered 1 c.args.self.now.now.series)
