use Rattle.std.proofs.Common.{◌≡◌, ◌∷◌, sym, subst, rules}
use Rattle.journal.specs.Contents.{contents_in}
use Rattle.kept_walk.specs.Parts.{FindsHead}
use Rattle.kept_walk.proofs.heads.read_head.Goals as goal

pub returns-in-Some : goal.returns-in-Some
returns-in-Some c =
    let parts : contents_in c.args.contents.now
    ≡ c.deref.result.now ∷ contents_in c.in-Some.others.now = search rules in
    subst (λ cs. FindsHead cs c.head_after.result) (sym parts) c.head_after.ensures
