use Rattle.std.proofs.Common.{refl, lit<}
use Rattle.commands.specs.Demo.{first_event}
use Rattle.commands.proofs.Demos.{has_last, was_refused}
use Rattle.commands.proofs.demo.commit_first.Goals as goal

pub returns-clause-ends : goal.returns-clause-ends
returns-clause-ends g c =
    has_last _ first_event c.in_ok-appender.ensures.ok c.commit.result _ c.commit.ensures.ends

pub returns-clause-err : goal.returns-clause-err
returns-clause-err g c =
    was_refused _ first_event c.in_ok-appender.ensures.ok c.commit.result g.J.Naming.opening
    c.requires.opening _ (0, lit< tt, refl) c.commit.ensures.err
