use Rattle.std.proofs.Common.{rules}
use Rattle.std.specs.Prelude.{pos}
use Rattle.std.proofs.lemmas.Result.{on_ok_weaker}
use Rattle.commands.proofs.Demos.{two_more}
use Rattle.commands.proofs.demo.add_series.Goals as goal

pub returns-clause-ok : goal.returns-clause-ok
returns-clause-ok c = on_ok_weaker c.add-2.result
    (two_more c.args.appender.now c.add.new.appender c.add-2.new.appender _ _
    (c.args.labels, (pos 10, c.args.number)) (c.args.labels, (pos 20, c.args.number))
    c.in_ok-add.ensures.ok (search rules) (search rules))
    c.add-2.ensures.ok
