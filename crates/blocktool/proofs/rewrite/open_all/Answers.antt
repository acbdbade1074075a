use Rattle.blocktool.specs.Opening.{taken_in}
use Rattle.blocktool.proofs.Taking.{take_more}
use Rattle.blocktool.proofs.rewrite.open_all.Goals as goal

pub loop-directory-preserved : goal.loop-directory-preserved
loop-directory-preserved g c end taken =
    c.loop-directory.invariant end
    (take_more g.B.OpensOwn.may_open c.args.own.now c.args.asked c.args.directories.now
    c.loop-directory.directory-index _ c.in_ok-opened.opened (taken_in c.loop-directory.inputs)
    (taken_in c.take.new.self) end c.loop-directory-test.true c.in_ok-opened.ensures
    c.in_ok-take.ensures taken)
