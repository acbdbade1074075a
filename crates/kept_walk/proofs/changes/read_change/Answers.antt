use Rattle.std.proofs.Common.{sym, subst, List, ℕ}
use Rattle.kept_walk.specs.Refusals.{FindsChange}
use Rattle.kept_walk.proofs.FromNames.{always, plain_finds}
use Rattle.kept_walk.proofs.changes.read_change.Goals as goal

pub returns-in-Some-clause-found : goal.returns-in-Some-clause-found
returns-in-Some-clause-found c =
    subst (λ (content : List ℕ). FindsChange c.args.names.now content
    c.numbered_change.new.names c.numbered_change.result) (sym c.in-Some.ensures)
    c.numbered_change.ensures.found

pub returns-in-None-clause-found : goal.returns-in-None-clause-found
returns-in-None-clause-found c =
    plain_finds c.args.names.now c.args.content.now c.plain_change.result c.in-None.ensures
    c.plain_change.ensures

pub returns-in-None-clause-bytes : goal.returns-in-None-clause-bytes
returns-in-None-clause-bytes c = always c.plain_change.result c.requires
