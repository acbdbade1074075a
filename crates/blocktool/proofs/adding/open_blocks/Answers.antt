use Rattle.std.proofs.Common.{refl}
use Rattle.blocktool.proofs.Taking.{add_more, add_none}
use Rattle.blocktool.proofs.adding.open_blocks.Goals as goal

pub loop-directory-preserved : goal.loop-directory-preserved
loop-directory-preserved g c rest end added =
    add_more g.B.OpensOwn.may_open c.args.own.now c.args.directories.now
    c.loop-directory.directory-index _ c.in_ok-opened.opened c.loop-directory.digits
    c.loop-directory.values c.in_ok-check_digits.field-0 c.in_ok-check_values.field-0
    c.loop-directory.blocks.items c.push.new.self.items rest end c.loop-directory-test.true
    c.in_ok-opened.ensures c.in_ok-check_digits.ensures c.in_ok-check_values.ensures
    c.in_ok-push.ensures.items c.loop-directory.invariant added

pub returns : goal.returns
returns g c =
    add_none g.B.OpensOwn.may_open c.args.own.now c.args.directories.now
    c.loop-directory.directory-index c.loop-directory.digits c.loop-directory.values
    c.loop-directory.blocks.items c.loop-directory-test.false c.loop-directory.invariant
